use Rattle.std.proofs.Common.{◌∙◌, ap, sym, subst}
use Rattle.std.specs.Arc.{arc_value}
use Rattle.ut_stamps.specs.StampLists.{StampLists}
use Rattle.ut_table.specs.Contents.{TableValue, staged}
use Rattle.ut_table.specs.Kept.{IsTable}
use Rattle.ut_table.specs.Filled.{restamped}
use Rattle.ut_table.proofs.RestampLemmas.{restamped-stages, restamped-kept}
use Rattle.ut_table.proofs.ReadLemmas.{is-place}
use Rattle.ut_table.proofs.table.Table.restamp.Goals as goal

pub set-requires : goal.set-requires
set-requires c = is-place c.self.invariant (ap (λ (v : TableValue). v.stages) c.self.view_is) c.args.place c.requires

pub invariant_of-self : goal.invariant_of-self
invariant_of-self c =
    subst (λ (stamps : StampLists). IsTable (record { columns = c.self.inside.columns; l1 = c.self.inside.l1.items; l2 = arc_value c.self.inside.l2; main = c.self.inside.main; pending = c.self.inside.pending; stamps = stamps }))
    (sym c.set.ensures) (restamped-kept c.self.invariant c.args.stamp c.args.place)

pub returns-clause-stages : goal.returns-clause-stages
returns-clause-stages c =
    ap (λ (stamps : StampLists). staged (record { columns = c.self.inside.columns; l1 = c.self.inside.l1.items; l2 = arc_value c.self.inside.l2; main = c.self.inside.main; pending = c.self.inside.pending; stamps = stamps })) c.set.ensures
    ∙ restamped-stages c.self.invariant c.args.stamp c.args.place
    ∙ ap (λ (v : TableValue). restamped c.args.stamp c.args.place v.stages) c.self.view_is
