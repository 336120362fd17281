-- The keys of rows on their way into columns.
use Rattle.std.proofs.Common.{◌≡◌, ℕ, zero, suc, ◌+◌, ◌*◌, ◌/◌, ◌<◌, List, [], ◌∷◌, ◌++◌, length, map, get_or, All, ap, sym, ◌∙◌, arith, refl}
use Rattle.std.specs.List.{flat_map, range_with_len}
use Rattle.std.proofs.Math.Nat.{mul-div_cancel, suc-mul, zero-mul}
use Rattle.std.proofs.lemmas.List.{ext_get_or, length-map, length-append, map-append, get_or_append_left, get_or-append-add}
use Rattle.std.proofs.lemmas.List.FromFn.{length-map-range_with_len, get_or-map-range_with_len}
use Rattle.ut_value.specs.KeyBytes.{key_of}
use Rattle.ut_value.specs.declared.value.Row.{Row}
use Rattle.ut_value.specs.declared.value.Value.{Value}
use Rattle.ut_l2.specs.KeyRows.{cell}
use Rattle.ut_l2.specs.Sources.{AreFlat}

-- numbers from a on, and those behind them
pub range-split : {X : Type 0} (f : ℕ → X) (a m n b k : ℕ) → a + m ≡ b → m + n ≡ k → map f (range_with_len a m) ++ map f (range_with_len b n) ≡ map f (range_with_len a k)
range-split f a zero n b k at whole =
    let p : b ≡ a = omega (arith, at) in
    let q : n ≡ k = omega (arith, whole) in
    ap (λ x. map f (range_with_len x n)) p ∙ ap (λ x. map f (range_with_len a x)) q
range-split f a (suc m) n b k at whole =
    let q : suc (m + n) ≡ k = omega (arith, whole) in
    ap (λ l. f a ∷ l) (range-split f (a + 1) m n b (m + n) (omega (arith, at)) refl) ∙ ap (λ x. map f (range_with_len a x)) q

-- one number more
pub range-more : (a n : ℕ) → range_with_len a (suc n) ≡ range_with_len a n ++ (a + n) ∷ []
range-more a zero = let at : a ≡ a + 0 = omega arith in ap (λ x. x ∷ []) at
range-more a (suc n) =
    let at : a + 1 + n ≡ a + suc n = omega arith in
    ap (λ xs. a ∷ xs) (range-more (a + 1) n) ∙ ap (λ x. a ∷ (range_with_len (a + 1) n ++ x ∷ [])) at

-- the elements of a list, one by one
pub all-mapped : {X Y : Type 0} (d : Y) (f : X → Y) (xs : List X) → map (λ i. get_or (map f xs) i d) (range_with_len 0 (length xs)) ≡ map f xs
all-mapped d f xs =
    let n = length-map-range_with_len (λ i. get_or (map f xs) i d) 0 (length xs) in
    ext_get_or d (map (λ i. get_or (map f xs) i d) (range_with_len 0 (length xs))) (map f xs) (n ∙ sym (length-map xs f))
    (λ i lt. get_or-map-range_with_len (λ k. get_or (map f xs) k d) 0 (length xs) i i d (omega (arith, lt, n)) (omega arith))

-- flat rows have as many values each as they are wide
flat-length : (width : ℕ) (rows : List Row) → All (λ (r : Row). length r.values ≡ width) rows → length (flat_map (λ (r : Row). r.values) rows) ≡ length rows * width
flat-length width [] wide = sym (zero-mul width)
flat-length width (r ∷ rs) wide =
    let rest = flat-length width rs (λ k d lt. wide (suc k) d (omega (arith, lt))) in
    let first : length r.values ≡ width = wide 0 r (omega arith) in
    let more = suc-mul (length rs) width in
    omega (arith, length-append r.values (flat_map (λ (q : Row). q.values) rs), rest, first, more)

-- the key of a row's value, by its place among all values
flat-key : (width j : ℕ) → j < width → (rows : List Row) → All (λ (r : Row). length r.values ≡ width) rows → (i : ℕ) → i < length rows
    → get_or (map key_of (flat_map (λ (r : Row). r.values) rows)) (i * width + j) [] ≡ get_or (map (cell j) rows) i []
flat-key width j lj [] wide i lt = absurd (omega (arith, lt))
flat-key width j lj (r ∷ rs) wide zero lt =
    let first : length r.values ≡ width = wide 0 r (omega arith) in
    let none = zero-mul width in
    let at : zero * width + j ≡ j = omega (arith, none) in
    ap (λ n. get_or (map key_of (r.values ++ flat_map (λ (q : Row). q.values) rs)) n []) at
    ∙ ap (λ l. get_or l j []) (map-append key_of r.values (flat_map (λ (q : Row). q.values) rs))
    ∙ get_or_append_left (map key_of r.values) (map key_of (flat_map (λ (q : Row). q.values) rs)) [] j (omega (arith, lj, first, length-map r.values key_of))
flat-key width j lj (r ∷ rs) wide (suc i) lt =
    let first : length r.values ≡ width = wide 0 r (omega arith) in
    let more = suc-mul i width in
    let at : suc i * width + j ≡ length (map key_of r.values) + (i * width + j) = omega (arith, more, first, length-map r.values key_of) in
    ap (λ l. get_or l (suc i * width + j) []) (map-append key_of r.values (flat_map (λ (q : Row). q.values) rs))
    ∙ ap (λ n. get_or (map key_of r.values ++ map key_of (flat_map (λ (q : Row). q.values) rs)) n []) at
    ∙ get_or-append-add (map key_of r.values) (map key_of (flat_map (λ (q : Row). q.values) rs)) (i * width + j) []
    ∙ flat-key width j lj rs (λ k d l. wide (suc k) d (omega (arith, l))) i (omega (arith, lt))

module _ (rows : List Row) (first_id width : ℕ) (values : List Value) (are : AreFlat rows first_id width values) (some : 0 < width) where
  -- there are as many rows
  pub flat-count : length values / width ≡ length rows
  flat-count = ap (λ l. length l / width) (sym are.flat) ∙ ap (λ n. n / width) (flat-length width rows are.wide) ∙ mul-div_cancel (length rows) some

  -- the keys of a column are those of the rows
  pub flat-cells : (j : ℕ) → j < width → map (λ i. get_or (map key_of values) (i * width + j) []) (range_with_len 0 (length values / width)) ≡ map (cell j) rows
  flat-cells j lj =
      let n = length-map-range_with_len (λ i. get_or (map key_of values) (i * width + j) []) 0 (length values / width) in
      let m = length-map rows (cell j) in
      ext_get_or [] (map (λ i. get_or (map key_of values) (i * width + j) []) (range_with_len 0 (length values / width))) (map (cell j) rows) (n ∙ flat-count ∙ sym m)
      (λ i lt.
      let li : i < length rows = omega (arith, lt, n, flat-count) in
      get_or-map-range_with_len (λ k. get_or (map key_of values) (k * width + j) []) 0 (length values / width) i i [] (omega (arith, lt, n)) (omega arith)
      ∙ ap (λ l. get_or (map key_of l) (i * width + j) []) (sym are.flat) ∙ flat-key width j lj rows are.wide i li)
