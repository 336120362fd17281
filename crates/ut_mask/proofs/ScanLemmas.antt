-- Laws on scans: a mask is narrowed by the tests of a list, from its front on.
use Rattle.std.proofs.Common.{◌≡◌, ℕ, zero, suc, ◌+◌, ◌-◌, ◌<◌, ◌≤◌, Bool, true, false, inl, inr, List, [], ◌∷◌, ◌++◌, length, take, drop, get_or, refl, sym, ◌∙◌, ap, arith, append-nil}
use Rattle.std.specs.Prelude.{replicate, not, map}
use Rattle.std.specs.List.{list_all}
use Rattle.std.specs.Simd.Lanes.{mask_l}
use Rattle.std.proofs.Math.Seq.{take-add}
use Rattle.std.proofs.lemmas.Bool.{cases_lt}
use Rattle.std.proofs.lemmas.List.{map-append, length-map, length-take, length-take-le, length-drop, get_or-drop, take_all}
use Rattle.ut_mask.specs.Mask.{both, kept, kept_from, word_bits}
use Rattle.ut_mask.proofs.BitLemmas.{word_bits-mask_l}
use Rattle.ut_mask.proofs.KeptLemmas.{kept-both, kept_from-next, kept_from-past, kept_from-clear, length-kept_from}

-- more tests: those from n on
kept-more : {X : Type 0} (test : X → Bool) (n m k : ℕ) (xs : List X) (ms now : List Bool) → n ≤ length xs → k ≡ n + m → now ≡ kept ms (map test (take n xs))
    → kept_from n now (map test (take m (drop n xs))) ≡ kept ms (map test (take k xs))
kept-more test n m k xs ms now within e is =
    ap (λ (l : List Bool). kept_from n l (map test (take m (drop n xs)))) is
    ∙ kept_from-next n 0 ms (map test (take n xs)) (map test (take m (drop n xs))) (omega (arith, length-map (take n xs) test, length-take-le n xs within))
    ∙ ap (λ (l : List Bool). kept ms l) (sym (ap (λ (j : ℕ). map test (take j xs)) e ∙ ap (λ l. map test l) (take-add n m xs) ∙ map-append test (take n xs) (take m (drop n xs))))

pub length-kept_by : {X : Type 0} (test : X → Bool) (n : ℕ) (xs : List X) (ms now : List Bool) → now ≡ kept ms (map test (take n xs)) → length now ≡ length ms
length-kept_by test n xs ms now is = ap (λ (l : List Bool). length l) is ∙ length-kept_from 0 ms (map test (take n xs))

-- the tests of 64 elements, or of all that are left, as a word
pub kept-word : {X : Type 0} (test : X → Bool) (n k : ℕ) (xs : List X) (ms now : List Bool) (word : ℕ) → length ms ≡ length xs → n ≤ length xs → k ≡ n + 64 → now ≡ kept ms (map test (take n xs))
    → word ≡ mask_l (map test (take 64 (drop n xs))) → kept_from n now (word_bits word) ≡ kept ms (map test (take k xs))
kept-word test n k xs ms now word same within e is tests =
    let size : length (map test (take 64 (drop n xs))) ≡ length (take 64 (drop n xs)) = length-map (take 64 (drop n xs)) test in
    let some = length-take 64 (drop n xs) in
    let left = length-drop n xs in
    let long = length-kept_by test n xs ms now is in
    let bits : word_bits word ≡ map test (take 64 (drop n xs)) ++ replicate (64 - length (map test (take 64 (drop n xs)))) false =
    ap (λ (j : ℕ). word_bits j) tests ∙ word_bits-mask_l (64 - length (map test (take 64 (drop n xs)))) (map test (take 64 (drop n xs))) (omega (arith, size, some)) in
    ap (λ (l : List Bool). kept_from n now l) bits ∙ cut ∙ kept-more test n 64 k xs ms now within e is
  where
    cut : kept_from n now (map test (take 64 (drop n xs)) ++ replicate (64 - length (map test (take 64 (drop n xs)))) false) ≡ kept_from n now (map test (take 64 (drop n xs)))
    cut =
        let size : length (map test (take 64 (drop n xs))) ≡ length (take 64 (drop n xs)) = length-map (take 64 (drop n xs)) test in
        let some = length-take 64 (drop n xs) in
        let left = length-drop n xs in
        let long = length-kept_by test n xs ms now is in
        elim (cases_lt (length (take 64 (drop n xs))) 64) [
          | inl less ↦ kept_from-past n now (map test (take 64 (drop n xs))) _ (omega (arith, size, some, left, long, same, less))
          | inr more ↦
              let none : 64 - length (map test (take 64 (drop n xs))) ≡ 0 = omega (arith, size, more) in
              ap (λ (j : ℕ). kept_from n now (map test (take 64 (drop n xs)) ++ replicate j false)) none ∙ ap (λ (l : List Bool). kept_from n now l) (append-nil (map test (take 64 (drop n xs))))
        ]

-- 64 places none of which stands need no tests
pub kept-passed : {X : Type 0} (test : X → Bool) (n k : ℕ) (xs : List X) (ms now : List Bool) → n ≤ length xs → k ≡ n + 64 → now ≡ kept ms (map test (take n xs))
    → list_all not (take 64 (drop n now)) ≡ true → now ≡ kept ms (map test (take k xs))
kept-passed test n k xs ms now within e is clear =
    let few : length (map test (take 64 (drop n xs))) ≤ 64 = omega (arith, length-map (take 64 (drop n xs)) test, length-take 64 (drop n xs)) in
    sym (kept_from-clear n 64 now (map test (take 64 (drop n xs))) few clear) ∙ kept-more test n 64 k xs ms now within e is

-- elements with one answer
tests-front : {X : Type 0} (test : X → Bool) (m : ℕ) (xs : List X) (d : X) (b : Bool) → m ≤ length xs → ((i : ℕ) → i < m → test (get_or xs i d) ≡ b) → map test (take m xs) ≡ replicate m b
tests-front test zero xs d b le all = refl
tests-front test (suc m) [] d b le all = absurd (omega (arith, le))
tests-front test (suc m) (x ∷ xs) d b le all =
    ap (λ (t : Bool). t ∷ map test (take m xs)) (all 0 (omega arith)) ∙ ap (λ (l : List Bool). b ∷ l) (tests-front test m xs d b (omega (arith, le)) (λ i h. all (suc i) (omega (arith, h))))

-- a range of elements with one answer is kept or cleared
pub kept-range : {X : Type 0} (test : X → Bool) (n k : ℕ) (xs : List X) (d : X) (b : Bool) (ms now next : List Bool) → n ≤ k → k ≤ length xs → now ≡ kept ms (map test (take n xs))
    → ((i : ℕ) → n ≤ i → i < k → test (get_or xs i d) ≡ b) → next ≡ kept_from n now (replicate (k - n) b) → next ≡ kept ms (map test (take k xs))
kept-range test n k xs d b ms now next le within is all step =
    let tests : map test (take (k - n) (drop n xs)) ≡ replicate (k - n) b =
    tests-front test (k - n) (drop n xs) d b (omega (arith, le, within, length-drop n xs)) (λ i h. ap test (get_or-drop n xs i d) ∙ all (n + i) (omega arith) (omega (arith, h, le))) in
    step ∙ ap (λ (l : List Bool). kept_from n now l) (sym tests) ∙ kept-more test n (k - n) k xs ms now (omega (arith, le, within)) (omega (arith, le)) is

-- the whole list
pub kept-whole : {X : Type 0} (test : X → Bool) (n : ℕ) (xs : List X) (ms now : List Bool) → length ms ≡ length xs → length xs ≤ n → now ≡ kept ms (map test (take n xs)) → now ≡ both ms (map test xs)
kept-whole test n xs ms now same le is =
    is ∙ ap (λ l. kept ms (map test l)) (take_all n xs le) ∙ kept-both ms (map test xs) (same ∙ sym (length-map xs test))
