use Rattle.std.proofs.Common.{◌≡◌, ◌∙◌, ◌<◌, length, map, get_or, All, sym, ap, subst, rules}
use Rattle.std.specs.List.Sorted.{IsSorted}
use Rattle.std.specs.Ordering.{nat_cmp, is_lt, ordering_then}
use Rattle.std.proofs.lemmas.List.Sorted.{All-permutation, ranks_by, answers_always}
use Rattle.std.proofs.lemmas.Result.{IfOk-weaker}
use Rattle.ut_resort.specs.declared.columns.Counted.{Counted}
use Rattle.ut_resort.specs.Resorted.{column_cmp}
use Rattle.ut_resort.specs.Sorting.{counted_cmp}
use Rattle.ut_resort.proofs.SortLemmas.{counted_cmp-total, places-moved, sorted-map, columns_by-is, columns-within}
use Rattle.ut_resort.proofs.columns.order_columns.Goals as goal

pub returns-clause-columns : goal.returns-clause-columns
returns-clause-columns c =
    let distinct = c.args.distinct.now in
    let old = c.in_ok-counted.counted.items in
    let new = c.sort_unstable_by.new.self.items in
    let moved = c.sort_unstable_by.ensures.permutation in
    let good = All-permutation (λ (p : Counted). p.keys ≡ get_or distinct p.column 0) old new moved c.in_ok-counted.ensures.counts in
    let sorted = c.sort_unstable_by.ensures.sorted (λ a b. is_lt (counted_cmp a b)) (ranks_by counted_cmp-total (λ (p : Counted). p)) (answers_always _ _ _ (λ f a r q k. search rules)) in
    let by = map (λ (p : Counted). p.column) new in
    let rises : IsSorted (column_cmp distinct) (map (λ (p : Counted). p.column) new) = sorted-map counted_cmp (column_cmp distinct) (λ (p : Counted). p.column) (λ (p : Counted). p.keys ≡ get_or distinct p.column 0) new good
    (λ p q hp hq i. ordering_then (nat_cmp (hp i) (hq i)) (nat_cmp p.column q.column)) sorted in
    let is = columns_by-is distinct by (places-moved (λ (p : Counted). p.column) old new (length distinct) c.in_ok-counted.ensures.columns moved) rises in
    IfOk-weaker c.columns_of.result _ _ (λ v e. e ∙ ap (map (λ (p : Counted). p.column)) c.as_slice.ensures.value ∙ is) c.columns_of.ensures

pub returns-clause-within : goal.returns-clause-within
returns-clause-within c =
    let distinct = c.args.distinct.now in
    let new = c.sort_unstable_by.new.self.items in
    let all = columns-within (length distinct) (map (λ (p : Counted). p.column) new) (places-moved (λ (p : Counted). p.column) c.in_ok-counted.counted.items new (length distinct) c.in_ok-counted.ensures.columns c.sort_unstable_by.ensures.permutation) in
    IfOk-weaker c.columns_of.result _ _ (λ v e. subst (All (λ column. column < length distinct)) (sym (e ∙ ap (map (λ (p : Counted). p.column)) c.as_slice.ensures.value)) all) c.columns_of.ensures
