use Rattle.std.proofs.Common.{◌∙◌, ◌+◌, ◌<◌, ◌^◌, length, List, IsTrue, refl, ap, subst, arith}
use Rattle.std.specs.List.{list_all}
use Rattle.std.specs.Arc.{arc_value}
use Rattle.ut_value.specs.declared.value.Value.{Value}
use Rattle.ut_value.specs.KeyBytes.{is_value}
use Rattle.ut_stamps.specs.StampLists.{StampLists}
use Rattle.ut_staged.specs.Staged.{entered_l1, stamped_row}
use Rattle.ut_table.specs.Contents.{TableValue, closed_rows}
use Rattle.ut_table.proofs.ChangeLemmas.{pushed-stages, pushed-kept}
use Rattle.ut_table.proofs.ReadLemmas.{counts, row-is}
use Rattle.ut_table.proofs.table.Table.push.Goals as goal

pub push-requires-clause-count : goal.push-requires-clause-count
push-requires-clause-count c =
    let view = ap (λ (v : TableValue). v.stages) c.self.view_is in
    omega (arith, counts c.self.invariant view, c.requires.few)

pub invariant_of-self : goal.invariant_of-self
invariant_of-self c =
    let view = ap (λ (v : TableValue). v.stages) c.self.view_is in
    let few : length c.self.inside.l1.items + length (arc_value c.self.inside.l2).rows + length (closed_rows c.self.inside.pending) < 2 ^ 31 = omega (arith, counts c.self.invariant view, c.requires.few) in
    let others = c.push_l1.ensures.others in
    pushed-kept c.self.invariant c.args.row c.args.stamp
    (record { l1_rows = c.push.ensures.rows; width = refl; l2_rows = refl; l1_stamps = c.push_l1.ensures.pushed.items; l2_stamps = ap (λ (s : StampLists). s.l2.items) others; closed = ap (λ (s : StampLists). s.closed) others; parts = ap (λ (s : StampLists). s.parts) others })
    (row-is c.self.invariant view c.args.row c.requires.fits (subst (λ (vs : List Value). IsTrue (list_all is_value vs)) c.as_slice.ensures c.values_keep_rules.ensures))
    few

pub returns-clause-stages : goal.returns-clause-stages
returns-clause-stages c =
    let others = c.push_l1.ensures.others in
    pushed-stages c.self.invariant c.args.row c.args.stamp
    {news = c.push_l1.new.self} (record { l1_rows = c.push.ensures.rows; width = refl; l2_rows = refl; l1_stamps = c.push_l1.ensures.pushed.items; l2_stamps = ap (λ (s : StampLists). s.l2.items) others; closed = ap (λ (s : StampLists). s.closed) others; parts = ap (λ (s : StampLists). s.parts) others })
    ∙ ap (λ (v : TableValue). entered_l1 (stamped_row c.args.stamp c.args.row) v.stages) c.self.view_is
