-- Laws on the bounds of blocks.
use Rattle.std.proofs.Common.{◌≡◌, inl, inr, ℕ, suc, ◌+◌, ◌-◌, ◌*◌, ◌<◌, ◌≤◌, min, Bool, true, false, cond, ◌&&◌, nat_le, nat_lt, List, [], ◌∷◌, length, take, get_or, refl, sym, ◌∙◌, ap, subst, arith}
use Rattle.std.specs.Prelude.{map}
use Rattle.std.specs.List.{list_any}
use Rattle.std.specs.Simd.Lanes.{mask_l}
use Rattle.std.proofs.lemmas.Bool.{and_cases, and_from, and_left, and_parts, and_right, or_cases, or_from, or_left, or_parts, or_right, le-leb, le-ltb, lt-leb, lt-ltb, leb-false, leb-true, ltb-false, ltb-true}
use Rattle.std.proofs.lemmas.List.{take_min}
use Rattle.ut_bits.specs.Places.{is_in}
use Rattle.ut_mask.specs.Mask.{kept}
use Rattle.ut_mask.proofs.KeptLemmas.{kept_from-all_true}
use Rattle.ut_mask.proofs.ScanLemmas.{kept-range}
use Rattle.ut_packed.specs.declared.bounds.Bounds.{Bounds}
use Rattle.ut_packed.specs.Bounds.{covers, meets, IsBetween}

-- a range that doesn't reach in between bounds holds no code between them
apart : (b : Bounds) (low high code : ℕ) → meets b (low, high) ≡ false → IsBetween b code → (nat_le low code && nat_lt code high) ≡ false
apart b low high code none at = elim (and_cases (nat_le low b.greatest) (nat_lt b.least high) none) [
  | inl above ↦ and_left (nat_le low code) (nat_lt code high) (lt-leb low code (omega (arith, leb-false low b.greatest above, at.1)))
  | inr below ↦ and_right (nat_le low code) (nat_lt code high) (le-ltb code high (omega (arith, ltb-false b.least high below, at.0)))
]

-- nor do ranges none of which reaches there
pub misses : (b : Bounds) (ranges : List (ℕ × ℕ)) (code : ℕ) → list_any (meets b) ranges ≡ false → IsBetween b code → is_in ranges code ≡ false
misses b [] code none at = refl
misses b (r ∷ rs) code none at =
    let parts = or_parts (meets b r) (list_any (meets b) rs) none in
    or_from (nat_le r.0 code && nat_lt code r.1) (is_in rs code) (apart b r.0 r.1 code parts.0 at) (misses b rs code parts.1 at)

-- a range that holds all that stands between bounds holds a code between them
inside : (b : Bounds) (low high code : ℕ) → covers b (low, high) ≡ true → IsBetween b code → (nat_le low code && nat_lt code high) ≡ true
inside b low high code all at =
    let parts = and_parts (nat_le low b.least) (nat_lt b.greatest high) all in
    and_from (nat_le low code) (nat_lt code high) (le-leb low code (omega (arith, leb-true low b.least parts.0, at.0))) (lt-ltb code high (omega (arith, ltb-true b.greatest high parts.1, at.1)))

-- and so do ranges one of which holds it
pub holds : (b : Bounds) (ranges : List (ℕ × ℕ)) (code : ℕ) → list_any (covers b) ranges ≡ true → IsBetween b code → is_in ranges code ≡ true
holds b [] code all at = all
holds b (r ∷ rs) code all at = elim (or_cases (covers b r) (list_any (covers b) rs) all) [
  | inl this ↦ or_left (nat_le r.0 code && nat_lt code r.1) (is_in rs code) (inside b r.0 r.1 code this at)
  | inr later ↦ or_right (nat_le r.0 code && nat_lt code r.1) (is_in rs code) (holds b rs code later at)
]

unset : (b : Bool) (m : ℕ) → b ≡ false → 0 ≡ m → 0 ≡ cond b 1 0 + 2 * m
unset b m e none = subst (λ t. 0 ≡ cond t 1 0 + 2 * m) (sym e) (omega (arith, none))

-- no answer is set
pub none-set : (test : ℕ → Bool) (xs : List ℕ) → ((i : ℕ) → i < length xs → test (get_or xs i 0) ≡ false) → 0 ≡ mask_l (map test xs)
none-set test [] h = refl
none-set test (x ∷ xs) h = unset (test x) (mask_l (map test xs)) (h 0 (omega arith)) (none-set test xs (λ i lt. h (suc i) (omega (arith, lt))))

-- more codes all of which pass leave a mask as it is
pub kept-all : (test : ℕ → Bool) (w n k end : ℕ) (codes : List ℕ) (ms now : List Bool) → n ≤ length codes → k ≡ n + w → end ≡ n + min (length codes - n) w → now ≡ kept ms (map test (take n codes))
    → ((i : ℕ) → n ≤ i → i < end → test (get_or codes i 0) ≡ true) → now ≡ kept ms (map test (take k codes))
kept-all test w n k end codes ms now within more last is all =
    let some : end ≡ min k (length codes) = omega (arith, last, more, within) in
    kept-range test n end codes 0 true ms now now (omega (arith, last)) (omega (arith, last, within)) is all (sym (kept_from-all_true n (end - n) now))
    ∙ ap (λ (m : ℕ). kept ms (map test (take m codes))) some ∙ ap (λ (l : List ℕ). kept ms (map test l)) (take_min k codes)
