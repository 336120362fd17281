use Rattle.std.proofs.Common.{true, sym, ap, ◌∙◌, subst, arith}
use Rattle.std.specs.Option.{IsSome}
use Rattle.ut_staged.specs.Staged.{row_at}
use Rattle.ut_table.specs.Contents.{TableValue}
use Rattle.ut_table.specs.Filled.{restamped}
use Rattle.ut_restart.specs.Shown.{stamp_of}
use Rattle.ut_restart.proofs.PutLemmas.{within-shown, row-shown, buried-is}
use Rattle.ut_restart.proofs.rows.bury.Goals as goal

pub bounds-stages-at : goal.bounds-stages-at
bounds-stages-at c = omega (arith, within-shown c.args.stages.now c.args.at.table c.args.at.place c.requires)

pub restamp-requires : goal.restamp-requires
restamp-requires c =
    subst (λ (t : TableValue). IsSome (row_at t.stages c.args.at.place)) c.index-stages-at.is
    (row-shown c.args.stages.now c.args.at.table c.args.at.place c.index-stages-at.result c.requires c.index-stages-at.is)

pub returns : goal.returns
returns c =
    buried-is c.args.stages.now c.args.at.table c.args.at.place c.index-stages-at.result c.restamp.new.self c.requires c.index-stages-at.is
    (c.restamp.ensures.stages ∙ ap (λ (t : TableValue). restamped (stamp_of true) c.args.at.place t.stages) (sym c.index-stages-at.is))
