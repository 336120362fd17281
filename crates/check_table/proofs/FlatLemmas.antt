-- Values as the rows that they are, one row's behind the other's.
use Rattle.std.proofs.Common.{◌≡◌, ℕ, zero, suc, ◌+◌, ◌*◌, ◌≤◌, List, [], ◌∷◌, ◌++◌, length, take, drop, map, All, refl, ap, ◌∙◌, arith, length-drop}
use Rattle.std.specs.List.{flat_map, range_with_len}
use Rattle.std.proofs.Math.Nat.{suc-mul, zero-mul}
use Rattle.std.proofs.lemmas.List.{take-append-drop, length-take-le}
use Rattle.ut_value.specs.declared.value.Row.{Row}
use Rattle.ut_value.specs.declared.value.Value.{Value}
use Rattle.ut_l2.specs.Sources.{AreFlat}

-- so many rows of a width, under the ids from one on
abbrev pub rows_from : ℕ → ℕ → ℕ → List Value → List Row
rows_from zero id width vs = []
rows_from (suc n) id width vs = record { id = id; values = take width vs } ∷ rows_from n (id + 1) width (drop width vs)

pub rows-count : (n id width : ℕ) (vs : List Value) → length (rows_from n id width vs) ≡ n
rows-count zero id width vs = refl
rows-count (suc n) id width vs = ap suc (rows-count n (id + 1) width (drop width vs))

ids : (n id width : ℕ) (vs : List Value) → map (λ (r : Row). r.id) (rows_from n id width vs) ≡ range_with_len id (length (rows_from n id width vs))
ids zero id width vs = refl
ids (suc n) id width vs = ap (λ l. id ∷ l) (ids n (id + 1) width (drop width vs))

wide : (n id width : ℕ) (vs : List Value) → n * width ≤ length vs → All (λ (r : Row). length r.values ≡ width) (rows_from n id width vs)
wide zero id width vs h k d lt = absurd (omega (arith, lt))
wide (suc n) id width vs h zero d lt = let more = suc-mul n width in length-take-le width vs (omega (arith, h, more))
wide (suc n) id width vs h (suc k) d lt =
    let more = suc-mul n width in
    wide n (id + 1) width (drop width vs) (omega (arith, h, more, length-drop width vs)) k d (omega (arith, lt))

flat : (n id width : ℕ) (vs : List Value) → length vs ≡ n * width → flat_map (λ (r : Row). r.values) (rows_from n id width vs) ≡ vs
flat zero id width [] h = refl
flat zero id width (v ∷ vs) h = let none = zero-mul width in absurd (omega (arith, h, none))
flat (suc n) id width vs h =
    let more = suc-mul n width in
    ap (λ l. take width vs ++ l) (flat n (id + 1) width (drop width vs) (omega (arith, h, more, length-drop width vs))) ∙ take-append-drop width vs

pub are-flat : (n id width : ℕ) (vs : List Value) → length vs ≡ n * width → AreFlat (rows_from n id width vs) id width vs
are-flat n id width vs h = record { ids = ids n id width vs; wide = wide n id width vs (omega (arith, h)); flat = flat n id width vs h }
