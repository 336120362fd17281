-- Ids of which no two are equal, by their order.
use Rattle.std.proofs.Common.{ℕ, ◌≢◌, List, arith}
use Rattle.std.specs.Cmp.{unsigned_Decides}
use Rattle.std.specs.List.{AllPairs}
use Rattle.std.specs.List.Sorted.{IsPermutation, IsNonDecreasing, IsStrictlyIncreasing}
use Rattle.std.proofs.lemmas.Cmp.{nat_eq_equiv}
use Rattle.std.proofs.lemmas.List.Sorted.{IsPermutation-sym}
use Rattle.std.proofs.lemmas.List.Kept.{AllPairs-from_increasing}
use Rattle.std.proofs.lemmas.Map.Keys.{IsDistinct-IsPermutation, IsStrictlyIncreasing-from_distinct}
use Rattle.std.proofs.lemmas.Map.Made.{AllPairs-from_IsDistinct, IsDistinct-from_AllPairs}

pub ascending_differ : (xs : List ℕ) → IsStrictlyIncreasing xs → AllPairs (λ (a b : ℕ). a ≢ b) xs
ascending_differ xs ascends = λ i j d lt within same. omega (arith, AllPairs-from_increasing xs ascends i j d lt within, same)

pub differ_permuted : (xs ys : List ℕ) → IsPermutation xs ys → AllPairs (λ (a b : ℕ). a ≢ b) xs → AllPairs (λ (a b : ℕ). a ≢ b) ys
differ_permuted xs ys moved differ =
    let apart = IsDistinct-from_AllPairs unsigned_Decides xs differ in
    AllPairs-from_IsDistinct unsigned_Decides ys (IsDistinct-IsPermutation _ nat_eq_equiv.symm xs ys moved apart)

pub differ_back : (xs ys : List ℕ) → IsPermutation xs ys → AllPairs (λ (a b : ℕ). a ≢ b) ys → AllPairs (λ (a b : ℕ). a ≢ b) xs
differ_back xs ys moved = differ_permuted ys xs (IsPermutation-sym xs ys moved)

pub differ_ascend : (xs : List ℕ) → IsNonDecreasing xs → AllPairs (λ (a b : ℕ). a ≢ b) xs → IsStrictlyIncreasing xs
differ_ascend xs rises differ = IsStrictlyIncreasing-from_distinct xs rises (IsDistinct-from_AllPairs unsigned_Decides xs differ)
