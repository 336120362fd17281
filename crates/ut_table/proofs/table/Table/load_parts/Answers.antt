use Rattle.std.proofs.Common.{◌∙◌, ap, sym, subst, List}
use Rattle.std.specs.Arc.{arc_value}
use Rattle.ut_value.specs.declared.value.Column.{Column}
use Rattle.ut_stamps.specs.StampLists.{StampLists}
use Rattle.ut_staged.specs.Staged.{Staged}
use Rattle.ut_table.specs.Contents.{TableValue, staged}
use Rattle.ut_table.specs.Kept.{IsTable}
use Rattle.ut_table.specs.Filled.{HoldsParts}
use Rattle.ut_table.proofs.FilledLemmas.{no-pending, no-stamps, filled-stages, filled-kept}
use Rattle.ut_table.proofs.table.Table.load_parts.Goals as goal

pub push_stamps-requires-clause-empty : goal.push_stamps-requires-clause-empty
push_stamps-requires-clause-empty c =
    no-stamps c.self.inside.columns c.self.inside.main.parts c.self.inside.stamps.parts c.self.invariant.stamped.parts (ap (λ (v : TableValue). v.stages.parts) c.self.view_is ∙ c.requires.empty)

pub invariant_of-self : goal.invariant_of-self
invariant_of-self c =
    let view = ap (λ (v : TableValue). v.stages) c.self.view_is in
    let lists = c.args.stamps.items in
    let holds : HoldsParts c.self.inside.columns c.args.main lists c.requires.holds.0 =
    subst (λ (cs : List Column). HoldsParts cs c.args.main lists c.requires.holds.0) (sym (ap (λ (s : Staged). s.columns) view)) c.requires.holds.1 in
    subst (λ (stamps : StampLists). IsTable (record { columns = c.self.inside.columns; l1 = c.self.inside.l1.items; l2 = arc_value c.self.inside.l2; main = c.args.main; pending = c.self.inside.pending; stamps = stamps }))
    (sym c.push_stamps.ensures)
    (filled-kept c.self.invariant (no-pending c.self.inside.pending (ap (λ (s : Staged). s.merge) view ∙ c.requires.idle)) c.args.main lists c.requires.holds.0 holds)

pub returns : goal.returns
returns c = λ parts holds.
    let view = ap (λ (v : TableValue). v.stages) c.self.view_is in
    let lists = c.args.stamps.items in
    let here : HoldsParts c.self.inside.columns c.args.main lists parts =
    subst (λ (cs : List Column). HoldsParts cs c.args.main lists parts) (sym (ap (λ (s : Staged). s.columns) view)) holds in
    ap (λ (stamps : StampLists). staged (record { columns = c.self.inside.columns; l1 = c.self.inside.l1.items; l2 = arc_value c.self.inside.l2; main = c.args.main; pending = c.self.inside.pending; stamps = stamps })) c.push_stamps.ensures
    ∙ filled-stages c.self.invariant (no-pending c.self.inside.pending (ap (λ (s : Staged). s.merge) view ∙ c.requires.idle)) c.args.main lists parts here
    ∙ ap (λ (s : Staged). record s { parts = parts }) view
