use Rattle.std.proofs.Common.{ℕ, refl, sym, subst}
use Rattle.std.specs.List.Sorted.{IsPermutation, IsNonDecreasing}
use Rattle.std.proofs.lemmas.List.Sorted.{IsNonDecreasingBy-from_sort}
use Rattle.ut_image.proofs.DifferLemmas.{ascending_differ, differ_permuted, differ_back, differ_ascend}
use Rattle.ut_image.proofs.ids.do_differ.Goals as goal

pub returns-then-is_ascending : goal.returns-then-is_ascending
returns-then-is_ascending c = (λ _. ascending_differ c.args.ids.now (c.is_ascending.ensures.0 c.if-is_ascending.true), λ _. refl)

pub returns : goal.returns
returns c =
    let ids = c.args.ids.now in
    let ordered = c.as_slice.result.now in
    let sorted = c.sort_unstable.new.self.items in
    let moved : IsPermutation ids ordered = subst (IsPermutation ids) (sym c.as_slice.ensures.value) (subst (λ xs. IsPermutation xs sorted) c.in_ok-ordered.ensures.items c.sort_unstable.ensures.permutation) in
    let rises : IsNonDecreasing ordered = subst IsNonDecreasing (sym c.as_slice.ensures.value) (IsNonDecreasingBy-from_sort (λ (x : ℕ). x) sorted c.sort_unstable.ensures.sorted) in (
      λ ascends. differ_back ids ordered moved (ascending_differ ordered (c.is_ascending-2.ensures.0 ascends)),
      λ differ. c.is_ascending-2.ensures.1 (differ_ascend ordered rises (differ_permuted ids ordered moved differ)),
    )
