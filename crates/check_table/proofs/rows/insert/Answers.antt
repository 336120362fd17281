use Rattle.std.proofs.Common.{◌∙◌, ap}
use Rattle.ut_staged.specs.Staged.{begun_row, entered_l1}
use Rattle.ut_table.proofs.NumberedLemmas.{rest-entered_l1}
use Rattle.check_table.proofs.rows.insert.Goals as goal

pub returns : goal.returns
returns g c =
    let row = c.args.row in
    rest-entered_l1 (begun_row 0 row) c.args.table.now.stages c.push.new.self.stages (c.push.ensures.stages ∙ ap (entered_l1 (begun_row 0 row)) c.room.ensures.stages) c.requires.rest
