-- Laws on the word that gathers the answers of a test, the first as the lowest digit.
use Rattle.std.proofs.Common.{◌≡◌, ℕ, suc, ◌+◌, ◌-◌, ◌*◌, ◌^◌, ◌<◌, ◌≤◌, Bool, true, false, cond, List, ◌∷◌, length, take, drop, get_or, sym, ◌∙◌, ap, arith}
use Rattle.std.specs.Prelude.{map}
use Rattle.std.specs.Int.{from_bool}
use Rattle.std.specs.Simd.Lanes.{mask_l}
use Rattle.std.proofs.Math.Pow.{pow_mono}
use Rattle.std.proofs.lemmas.List.{drop_more, length-map, length-take}
use Rattle.std.proofs.lemmas.Simd.{mask_l-lt}

-- the answers from a place up to an end
abbrev pub answers : (ℕ → Bool) → ℕ → ℕ → List ℕ → List Bool
answers test at end codes = map test (take (end - at) (drop at codes))

doubled : (b : Bool) (bits m : ℕ) → bits ≡ m → bits + bits + from_bool b ≡ cond b 1 0 + 2 * m
doubled true bits m e = omega (arith, e)
doubled false bits m e = omega (arith, e)

-- the answers from a place that is not before the start, gathered in a word
pub record AreGathered (test : ℕ → Bool) (start at end word : ℕ) (codes : List ℕ) : Type 0 where
  pub behind : start ≤ at
  pub within : at ≤ end
  pub bits : word ≡ mask_l (answers test at end codes)

-- an answer is one bit
pub answer-one : (b : Bool) (n : ℕ) → n ≡ from_bool b → n ≤ 1
answer-one true n e = omega (arith, e)
answer-one false n e = omega (arith, e)

word-more : (test : ℕ → Bool) (j at end bits bit : ℕ) (codes : List ℕ) → at ≡ j + 1 → at ≤ end → end ≤ length codes → bits ≡ mask_l (answers test at end codes) → bit ≡ from_bool (test (get_or codes j 0))
    → bits + bits + bit ≡ mask_l (answers test j end codes)
word-more test j at end bits bit codes e le within is same =
    let more : end - j ≡ suc (end - at) = omega (arith, e, le) in
    let front : drop j codes ≡ get_or codes j 0 ∷ drop at codes = drop_more codes j 0 (omega (arith, e, le, within)) ∙ ap (λ (k : ℕ). get_or codes j 0 ∷ drop k codes) (sym e) in
    ap (λ (b : ℕ). bits + bits + b) same
    ∙ doubled (test (get_or codes j 0)) bits (mask_l (answers test at end codes)) is
    ∙ sym (ap (λ (k : ℕ). mask_l (map test (take k (drop j codes)))) more ∙ ap (λ (l : List ℕ). mask_l (map test (take (suc (end - at)) l))) front)

-- one more answer in front
pub answers-more : (test : ℕ → Bool) (start at end bits bit : ℕ) (codes : List ℕ) → start < at → AreGathered test start at end bits codes → end ≤ length codes → bit ≡ from_bool (test (get_or codes (at - 1) 0))
    → AreGathered test start (at - 1) end (bits + bits + bit) codes
answers-more test start at end bits bit codes lt so_far within same = record {
  behind = omega (arith, lt);
  within = omega (arith, lt, so_far.within);
  bits = word-more test (at - 1) at end bits bit codes (omega (arith, lt)) so_far.within within so_far.bits same;
}

-- a word of fewer than 64 answers has room for one more
pub answers-room : (test : ℕ → Bool) (at end bits : ℕ) (codes : List ℕ) → end < at + 64 → bits ≡ mask_l (answers test at end codes) → bits < 2 ^ 63
answers-room test at end bits codes few is =
    let small = mask_l-lt (answers test at end codes) in
    let size : length (answers test at end codes) ≤ 63 = omega (arith, few, length-map (take (end - at) (drop at codes)) test, length-take (end - at) (drop at codes)) in
    let power : 2 ^ length (answers test at end codes) ≤ 2 ^ 63 = pow_mono size in
    omega (arith, is, small, power)

-- no answer is there yet
pub answers-none : (test : ℕ → Bool) (start end : ℕ) (codes : List ℕ) → start ≤ end → AreGathered test start end end 0 codes
answers-none test start end codes order = record {
  behind = order;
  within = omega arith;
  bits = let none : end - end ≡ 0 = omega arith in sym (ap (λ (k : ℕ). mask_l (map test (take k (drop end codes)))) none);
}
