use Rattle.std.proofs.Common.{◌≡◌, ◌∙◌, ◌≤◌, ◌++◌, length, map, take, drop, min, List, All, refl, ap, sym, subst, arith}
use Rattle.std.proofs.lemmas.List.Elements.{All-take}
use Rattle.std.specs.Arc.{arc_value}
use Rattle.ut_value.specs.declared.value.Row.{Row}
use Rattle.ut_stamps.specs.declared.visibility.Stamp.{Stamp}
use Rattle.ut_l2.specs.KeyRows.{keyed}
use Rattle.ut_stamps.specs.StampLists.{StampLists}
use Rattle.ut_staged.specs.Staged.{merged_l1}
use Rattle.ut_table.specs.Contents.{TableValue}
use Rattle.ut_table.specs.Kept.{IsRow}
use Rattle.ut_table.proofs.ChangeLemmas.{merged-stages, merged-kept, merged_l1-min}
use Rattle.ut_table.proofs.ReadLemmas.{l1-count, rows-wide, l2-stage}
use Rattle.ut_table.proofs.table.Table.merge_l1.Goals as goal

pub append-requires-clause-stage : goal.append-requires-clause-stage
append-requires-clause-stage c = l2-stage c.self.invariant (ap (λ (v : TableValue). v.stages) c.self.view_is) c.as_slice.result.now (arc_value c.self.inside.l2) c.as_slice.ensures refl

pub append-requires-clause-wide : goal.append-requires-clause-wide
append-requires-clause-wide c =
    let view = ap (λ (v : TableValue). v.stages) c.self.view_is in
    let m = c.min-count.result in
    subst (λ (rows : List Row). All (λ (r : Row). length r.values ≡ (arc_value c.self.inside.l2).width) (take m rows)) (sym c.rows.ensures.rows)
    (rows-wide c.self.invariant view (take m c.self.inside.l1.items) (All-take (IsRow c.self.inside.columns) m c.self.inside.l1.items c.self.invariant.rows.l1))

pub returns-clause-count : goal.returns-clause-count
returns-clause-count c =
    let view = ap (λ (v : TableValue). v.stages) c.self.view_is in
    c.min-count.ensures ∙ ap (min c.args.n) (c.len.ensures.len ∙ l1-count c.self.invariant view)

pub invariant_of-self-2 : goal.invariant_of-self-2
invariant_of-self-2 c =
    let m = c.min-count.result in
    let within : c.min-count.result ≤ length c.self.inside.l1.items = omega (arith, c.min-count.ensures, c.len.ensures.len) in
    let moved = c.move_l1.ensures.moved in
    let others = c.move_l1.ensures.others in
    merged-kept c.self.invariant m within (record {
      l1_rows = c.take_first.ensures.rows;
      width = c.append.ensures.width;
      l2_rows = c.in_ok-append.ensures.ok ∙ ap (λ (rows : List Row). (arc_value c.self.inside.l2).rows ++ map keyed (take m rows)) c.rows.ensures.rows;
      l1_stamps = moved.l1 ∙ ap (λ (l : List Stamp). drop m l) c.room.ensures.kept.l1;
      l2_stamps = moved.l2 ∙ (λ i. c.room.ensures.kept.l2 i ++ take m (c.room.ensures.kept.l1 i));
      closed = ap (λ (s : StampLists). s.closed) others ∙ c.room.ensures.kept.closed;
      parts = ap (λ (s : StampLists). s.parts) others ∙ c.room.ensures.kept.parts;
    })

pub returns-clause-ok : goal.returns-clause-ok
returns-clause-ok c =
    let view = ap (λ (v : TableValue). v.stages) c.self.view_is in
    let m = c.min-count.result in
    let within : c.min-count.result ≤ length c.self.inside.l1.items = omega (arith, c.min-count.ensures, c.len.ensures.len) in
    let moved = c.move_l1.ensures.moved in
    let others = c.move_l1.ensures.others in
    merged-stages c.self.invariant m within {news = c.move_l1.new.self} (record {
      l1_rows = c.take_first.ensures.rows;
      width = c.append.ensures.width;
      l2_rows = c.in_ok-append.ensures.ok ∙ ap (λ (rows : List Row). (arc_value c.self.inside.l2).rows ++ map keyed (take m rows)) c.rows.ensures.rows;
      l1_stamps = moved.l1 ∙ ap (λ (l : List Stamp). drop m l) c.room.ensures.kept.l1;
      l2_stamps = moved.l2 ∙ (λ i. c.room.ensures.kept.l2 i ++ take m (c.room.ensures.kept.l1 i));
      closed = ap (λ (s : StampLists). s.closed) others ∙ c.room.ensures.kept.closed;
      parts = ap (λ (s : StampLists). s.parts) others ∙ c.room.ensures.kept.parts;
    })
    ∙ ap (merged_l1 m) view
    ∙ merged_l1-min c.args.n m c.args.self.now.stages (returns-clause-count c)
