use Rattle.std.proofs.Common.{◌<◌, length, sym, ap, ◌∙◌, arith}
use Rattle.ut_stamps.specs.declared.place.Place.TheVariants.{L1}
use Rattle.ut_staged.specs.Staged.{Staged, entered_l1}
use Rattle.ut_table.specs.Contents.{TableValue}
use Rattle.ut_restart.specs.Standing.{live_row}
use Rattle.ut_restart.proofs.PutLemmas.{shown-long, table-read, entered-is}
use Rattle.ut_restart.proofs.rows.enter.Goals as goal

pub returns-clause-place : goal.returns-clause-place
returns-clause-place c =
    let lt : c.args.table < length c.args.stages.now = omega (arith, c.requires.there, shown-long c.args.stages.now) in
    ap L1 (c.l1_len.ensures.len ∙ ap (λ (s : Staged). length s.l1) (ap (λ (t : TableValue). t.stages) (sym c.index-stages-table.is) ∙ table-read c.args.stages.now c.args.table c.index-stages-table.result lt c.index-stages-table.is))

pub returns-clause-stages : goal.returns-clause-stages
returns-clause-stages c =
    entered-is c.args.stages.now c.args.table c.args.row c.index-stages-table.result c.push.new.self c.requires.there c.index-stages-table.is
    (c.push.ensures.stages ∙ ap (entered_l1 (live_row c.args.row)) (c.room.ensures.stages ∙ ap (λ (t : TableValue). t.stages) (sym c.index-stages-table.is)))
