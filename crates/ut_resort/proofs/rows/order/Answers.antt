use Rattle.std.proofs.Common.{◌≡◌, ◌∙◌, ◌<◌, ℕ, Bor, List, length, map, drop, take, All, sym, ap, subst, rules, arith}
use Rattle.std.specs.List.{range_with_len}
use Rattle.std.specs.List.Sorted.{IsPermutation, IsSorted}
use Rattle.std.specs.Ordering.{is_lt}
use Rattle.std.proofs.lemmas.Fn.{answers_by}
use Rattle.std.proofs.lemmas.List.{length-map}
use Rattle.std.proofs.lemmas.List.Sorted.{All-permutation, ranks_by}
use Rattle.std.proofs.lemmas.Result.{IfOk-weaker}
use Rattle.ut_resort.specs.declared.rows.Keyed.{Keyed}
use Rattle.ut_resort.specs.Resorted.{row_cmp, columns_by, codes_of}
use Rattle.ut_resort.specs.Sorting.{codes_cmp, keyed_cmp, lists_now, ArePacked, IsKeyed}
use Rattle.ut_resort.proofs.PackLemmas.{keyed_cmp-total, keyed_cmp-is, codes_cmp-rows, drop-lists, drop-whole, written}
use Rattle.ut_resort.proofs.SortLemmas.{places-moved, sorted-map, columns_by-within, lengths-by, lengths-codes, lengths-lent}
use Rattle.ut_resort.proofs.rows.order.Goals as goal

pub pack-packed-requires-clause-lengths : goal.pack-packed-requires-clause-lengths
pack-packed-requires-clause-lengths c =
    let by = columns_by c.args.distinct.now in
    let codes = codes_of c.args.columns.now in
    let ids = c.args.ids.now in
    let sizes = lengths-codes c.args.columns.now (length ids) c.requires.sizes in
    let many : length codes ≡ length c.args.distinct.now = length-map c.args.columns.now (λ column. column.items) ∙ sym c.requires.counts in
    let within : All (λ column. column < length codes) by = subst (λ n. All (λ column. column < n) by) (sym many) (columns_by-within c.args.distinct.now) in
    let all = subst (All (λ l. length l ≡ length ids)) (sym c.in_ok-lists.ensures) (lengths-by by codes ids within sizes) in
    let lent = lengths-lent c.in_ok-lists.lists.items (length ids) all in
    let wide : length c.as_mut_slice.result.now ≡ length ids = omega (arith, c.in_ok-keys.ensures.len) in
    subst (λ n. All (λ l. length l.now ≡ n) c.as_slice.result.now) (sym wide) (subst (All (λ l. length l.now ≡ length ids)) (sym c.as_slice.ensures.value) lent)

pub returns-clause-all : goal.returns-clause-all
returns-clause-all c =
    let old = c.in_ok-rows.rows.items in
    let new = c.sort_unstable_by.new.self.items in
    let row = λ (k : Keyed). k.row in
    let many : length c.as_slice-2.result.now ≡ length c.args.ids.now = omega (arith, c.in_ok-keys.ensures.len) in
    let moved = places-moved row old new (length c.args.ids.now) (c.in_ok-rows.ensures.rows ∙ ap (range_with_len 0) many) c.sort_unstable_by.ensures.permutation in
    IfOk-weaker c.rows_of.result _ _ (λ places e. subst (IsPermutation (range_with_len 0 (length c.args.ids.now))) (sym (e ∙ ap (map row) c.as_slice-3.ensures.value)) moved) c.rows_of.ensures

pub returns-clause-sorted : goal.returns-clause-sorted
returns-clause-sorted c =
    let old = c.in_ok-rows.rows.items in
    let new = c.sort_unstable_by.new.self.items in
    let lent = c.in_ok-lists.lists.items in
    let packed = c.pack-packed.result in
    let keys = c.as_slice-2.result.now in
    let by = columns_by c.args.distinct.now in
    let codes = codes_of c.args.columns.now in
    let ids = c.args.ids.now in
    let row = λ (k : Keyed). k.row in
    let size : length c.pack-packed.new.keys ≡ c.in_ok-keys.keys.len = omega (arith, c.in_ok-keys.ensures.len) in
    let kept : keys ≡ c.pack-packed.new.keys = c.as_slice-2.ensures.value ∙ written c.pack-packed.new.keys c.in_ok-keys.keys.items c.in_ok-keys.keys.len size in
    let as_packed : ArePacked (take packed (lists_now lent)) keys = subst (ArePacked (take packed (lists_now lent))) (sym kept) (subst (λ (l : List (Bor (List ℕ))). ArePacked (take packed (lists_now l)) c.pack-packed.new.keys) c.as_slice.ensures.value c.pack-packed.ensures.packed) in
    let good = All-permutation (IsKeyed keys) old new c.sort_unstable_by.ensures.permutation c.in_ok-rows.ensures.keys in
    let rest = lists_now (drop packed c.deref.result.now) in
    let sorted = c.sort_unstable_by.ensures.sorted (λ a b. is_lt (keyed_cmp rest a b)) (ranks_by (keyed_cmp-total rest) (λ (p : Keyed). p)) (answers_by _ _ (λ f. f.0.now ≡ drop packed c.deref.result.now) (λ f a r q k i.
    let told : r ≡ keyed_cmp (lists_now f.0.now) a.0.now a.1.0.now = search rules in
    let same : q.0.now ≡ f.0.now = search rules in
    (ap is_lt told ∙ ap (λ (l : List (Bor (List ℕ))). is_lt (keyed_cmp (lists_now l) a.0.now a.1.0.now)) i, same ∙ i)) _ (drop-whole packed c.deref.result.now)) in
    let rises : IsSorted (row_cmp by codes ids) (map row new) = sorted-map (keyed_cmp rest) (row_cmp by codes ids) row (IsKeyed keys) new good
    (λ p q hp hq.
    (ap (λ (l : List (Bor (List ℕ))). keyed_cmp (lists_now (drop packed l)) p q) c.deref.ensures.value ∙ ap (λ lists. keyed_cmp lists p q) (drop-lists packed lent)) ∙ keyed_cmp-is (lists_now lent) packed keys p q as_packed hp hq ∙ ap (λ lists. codes_cmp lists p.row q.row) c.in_ok-lists.ensures ∙ codes_cmp-rows by codes ids p.row q.row) sorted in
    IfOk-weaker c.rows_of.result _ _ (λ places e. subst (IsSorted (row_cmp by codes ids)) (sym (e ∙ ap (map row) c.as_slice-3.ensures.value)) rises) c.rows_of.ensures
