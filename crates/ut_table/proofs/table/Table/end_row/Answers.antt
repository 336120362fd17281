use Rattle.std.proofs.Common.{◌∙◌, ap, sym, subst}
use Rattle.std.specs.Arc.{arc_value}
use Rattle.ut_stamps.specs.StampLists.{StampLists}
use Rattle.ut_staged.specs.Staged.{ended_in}
use Rattle.ut_table.specs.Contents.{TableValue, staged}
use Rattle.ut_table.specs.Kept.{IsTable}
use Rattle.ut_table.proofs.EndLemmas.{ended-stages, ended-kept}
use Rattle.ut_table.proofs.ReadLemmas.{is-place}
use Rattle.ut_table.proofs.table.Table.end_row.Goals as goal

pub set_end-requires : goal.set_end-requires
set_end-requires c = is-place c.self.invariant (ap (λ (v : TableValue). v.stages) c.self.view_is) c.args.place c.requires

pub invariant_of-self : goal.invariant_of-self
invariant_of-self c =
    subst (λ (stamps : StampLists). IsTable (record { columns = c.self.inside.columns; l1 = c.self.inside.l1.items; l2 = arc_value c.self.inside.l2; main = c.self.inside.main; pending = c.self.inside.pending; stamps = stamps }))
    (sym c.set_end.ensures) (ended-kept c.self.invariant c.args.t c.args.place)

pub returns-clause-stages : goal.returns-clause-stages
returns-clause-stages c =
    ap (λ (stamps : StampLists). staged (record { columns = c.self.inside.columns; l1 = c.self.inside.l1.items; l2 = arc_value c.self.inside.l2; main = c.self.inside.main; pending = c.self.inside.pending; stamps = stamps })) c.set_end.ensures
    ∙ ended-stages c.self.invariant c.args.t c.args.place
    ∙ ap (λ (v : TableValue). ended_in c.args.t c.args.place v.stages) c.self.view_is
