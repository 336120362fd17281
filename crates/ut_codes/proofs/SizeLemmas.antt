-- Laws on widths, runs and sizes.
use Rattle.std.proofs.Common.{◌≡◌, ℕ, zero, suc, ◌+◌, ◌^◌, ◌<◌, ◌≤◌, eqb, nat_lt, Bool, true, false, inl, inr, if◌then◌else◌, List, [], ◌∷◌, length, drop, get_or, refl, sym, ◌∙◌, ap, subst, arith}
use Rattle.std.proofs.lemmas.Bool.{cases_lt, lt-ltb, le-ltb, lt-leb, le-leb}
use Rattle.std.proofs.lemmas.Bool.Decides.{eqb_tells}
use Rattle.std.proofs.Math.Nat.{pow-suc}
use Rattle.std.specs.List.{list_all}
use Rattle.ut_bits.specs.Bits.{AllBelow}
use Rattle.ut_rle.specs.Runs.{runs_of, with_code, is_first_code}
use Rattle.ut_codes.specs.Sizes.{code_width, width_from, IsWidth}

power-grows : (n : ℕ) → n < 2 ^ n
power-grows zero = omega arith
power-grows (suc n) = omega (arith, pow-suc 2 n, power-grows n)

first-width : (more w n least : ℕ) → w ≤ least → least ≤ w + more → n ≤ 2 ^ least → ((v : ℕ) → v < least → 2 ^ v < n) → width_from more w n ≡ least
first-width zero w n least low high fits none = omega arith
first-width (suc more) w n least low high fits none =
    elim (cases_lt w least) [
      | inl less ↦ rw (lt-leb n (2 ^ w) (none w less)) (first-width more (w + 1) n least (omega arith) (omega arith) fits none)
      | inr same ↦ let e : w ≡ least = omega arith in rw (le-leb n (2 ^ w) (subst (λ (k : ℕ). n ≤ 2 ^ k) (sym e) fits)) e
    ]

-- the least width by what it holds
pub width-is : (n least : ℕ) → n ≤ 2 ^ least → ((v : ℕ) → v < least → 2 ^ v < n) → least ≡ code_width n
unfolding code_width
width-is n least fits none = sym (first-width n 0 n least (omega arith) (few least none) fits none)
  where
    few : (least : ℕ) → ((v : ℕ) → v < least → 2 ^ v < n) → least ≤ 0 + n
    few zero none = omega arith
    few (suc v) none = omega (arith, none v (omega arith), power-grows v)

-- how many neighbours differ
abbrev pub changes : List ℕ → ℕ
changes [] = 0
changes (c ∷ []) = 0
changes (c ∷ d ∷ cs) = (if eqb d c then 0 else 1) + changes (d ∷ cs)

with-first : (d c : ℕ) (rs : List (ℕ × ℕ)) → is_first_code (with_code d rs) c ≡ eqb d c
with-first d c [] = refl
with-first d c (r ∷ rs) = elim (eqb_tells r.0 d) [ inl e ↦ rw e.0 refl | inr e ↦ rw e.0 refl ]

first-code : (d c : ℕ) (cs : List ℕ) → is_first_code (runs_of (d ∷ cs)) c ≡ eqb d c
first-code d c cs = with-first d c (runs_of cs)

length-with_code : (c : ℕ) (rs : List (ℕ × ℕ)) → length (with_code c rs) ≡ length rs + (if is_first_code rs c then 0 else 1)
length-with_code c [] = refl
length-with_code c (r ∷ rs) = elim (eqb_tells r.0 c) [ inl e ↦ rw e.0 (omega arith) | inr e ↦ rw e.0 (omega arith) ]

pub length-runs_of : (c : ℕ) (cs : List ℕ) → length (runs_of (c ∷ cs)) ≡ 1 + changes (c ∷ cs)
length-runs_of c [] = refl
length-runs_of c (d ∷ cs) = length-with_code c (runs_of (d ∷ cs)) ∙ ap (λ (b : Bool). length (runs_of (d ∷ cs)) + (if b then 0 else 1)) (first-code d c cs)
    ∙ ap (λ (k : ℕ). k + (if eqb d c then 0 else 1)) (length-runs_of d cs) ∙ omega arith

pub changes-end : (codes : List ℕ) (i : ℕ) → length codes ≤ i + 1 → changes (drop i codes) ≡ 0
changes-end [] zero h = refl
changes-end [] (suc i) h = refl
changes-end (c ∷ []) zero h = refl
changes-end (c ∷ d ∷ cs) zero h = absurd (omega arith)
changes-end (c ∷ cs) (suc i) h = changes-end cs i (omega arith)

pub AllBelow-width : (reach width : ℕ) (codes : List ℕ) → AllBelow reach codes → reach ≤ 2 ^ width → AllBelow (2 ^ width) codes
AllBelow-width reach width [] h le = tt
AllBelow-width reach width (c ∷ cs) h le = (omega (arith, h.0), AllBelow-width reach width cs h.1 le)

-- the test of each code against a limit
pub below-test : (limit : ℕ) (codes : List ℕ) → (list_all (λ c. nat_lt c limit) codes ≡ true → AllBelow limit codes) × (AllBelow limit codes → list_all (λ c. nat_lt c limit) codes ≡ true)
below-test limit [] = (λ _. tt, λ _. refl)
below-test limit (c ∷ cs) =
    elim (cases_lt c limit) [
      | inl less ↦ rw (lt-ltb c limit less) (λ all. (less, (below-test limit cs).0 all), λ all. (below-test limit cs).1 all.1)
      | inr more ↦ rw (le-ltb c limit more) (λ no. absurd (let e : false ≡ true = no in cc), λ all. absurd (omega (arith, all.0, more)))
    ]
