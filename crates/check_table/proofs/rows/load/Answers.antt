use Rattle.std.proofs.Common.{◌∙◌, ◌∷◌, [], ap}
use Rattle.ut_staged.specs.Staged.{begun_row, entered_l2}
use Rattle.ut_table.proofs.NumberedLemmas.{rest-entered_l2}
use Rattle.check_table.proofs.rows.load.Goals as goal

pub returns : goal.returns
returns g c =
    let row = c.args.row in
    rest-entered_l2 (begun_row 0 row) c.args.table.now.stages c.load.new.self.stages (c.in_ok-load.ensures.ok ∙ ap (entered_l2 (begun_row 0 row ∷ [])) c.room.ensures.stages) c.requires.rest
