-- Lists that are mapped, filtered and laid end to end, by their places.
use Rattle.std.proofs.Common.{◌≡◌, ℕ, zero, suc, ◌+◌, ◌≤◌, ◌⊎◌, inl, inr, Bool, T, true, false, cond, List, [], ◌∷◌, ◌++◌, length, map, filter, Option, None, Some, refl, sym, ap, ◌∙◌, arith, unwrap_or}
use Rattle.std.specs.Prelude.{slice_get}
use Rattle.std.specs.Ordering.{nat_cmp}
use Rattle.std.specs.FinMap.{find, is_sorted}
use Rattle.ut_exact.specs.Places.{StagedRow}
use Rattle.ut_exact.proofs.ScanLemmas.{kept, find-filter}

pub none_some : {X : Type 0} (x : X) → None ≡ Some x → ⊥
none_some x h = cc

pub some_same : {X : Type 0} (a b : X) → Some a ≡ Some b → a ≡ b
some_same a b e = ap (λ q. unwrap_or q a) e

-- ---- what stands at a place

pub get-mapped : {X Y : Type 0} (f : X → Y) (xs : List X) (i : ℕ) (y : Y) → slice_get (map f xs) i ≡ Some y → (x : X) × (slice_get xs i ≡ Some x) × (f x ≡ y)
get-mapped f [] i y is = absurd (none_some y is)
get-mapped f (x ∷ xs) zero y is = (x, refl, some_same (f x) y is)
get-mapped f (x ∷ xs) (suc i) y is = get-mapped f xs i y is

pub get-map : {X Y : Type 0} (f : X → Y) (xs : List X) (i : ℕ) (x : X) → slice_get xs i ≡ Some x → slice_get (map f xs) i ≡ Some (f x)
get-map f [] i x is = absurd (none_some x is)
get-map f (y ∷ xs) zero x is = ap (λ o. Some (f (unwrap_or o y))) is
get-map f (y ∷ xs) (suc i) x is = get-map f xs i x is

pub get-append : {X : Type 0} (xs ys : List X) (i : ℕ) (x : X) → slice_get (xs ++ ys) i ≡ Some x → (slice_get xs i ≡ Some x) ⊎ ((j : ℕ) × (i ≡ length xs + j) × (slice_get ys j ≡ Some x))
get-append [] ys i x is = inr (i, omega arith, is)
get-append (z ∷ xs) ys zero x is = inl is
get-append (z ∷ xs) ys (suc i) x is = elim (get-append xs ys i x is) [ inl here ↦ inl here | inr there ↦ inr (there.0, (let e = there.1 in omega (arith, e)), there.2) ]

pub get-front : {X : Type 0} (xs ys : List X) (i : ℕ) (x : X) → slice_get xs i ≡ Some x → slice_get (xs ++ ys) i ≡ Some x
get-front [] ys i x is = absurd (none_some x is)
get-front (z ∷ xs) ys zero x is = is
get-front (z ∷ xs) ys (suc i) x is = get-front xs ys i x is

pub get-back : {X : Type 0} (xs ys : List X) (j : ℕ) (x : X) → slice_get ys j ≡ Some x → (i : ℕ) × (slice_get (xs ++ ys) i ≡ Some x)
get-back [] ys j x is = (j, is)
get-back (z ∷ xs) ys j x is = let rest = get-back xs ys j x is in (suc rest.0, rest.1)

-- what passes a test
pub get-filtered : {X : Type 0} (test : X → Bool) (xs : List X) (i : ℕ) (x : X) → slice_get (filter test xs) i ≡ Some x → (j : ℕ) × (slice_get xs j ≡ Some x) × (test x ≡ true)
get-filtered test [] i x is = absurd (none_some x is)
get-filtered {X} test (y ∷ xs) i x is = by (λ k at. let rest = get-filtered test xs k x at in (suc rest.0, rest.1, rest.2)) (test y) refl i is
  where
    by : ((k : ℕ) → slice_get (filter test xs) k ≡ Some x → (j : ℕ) × (slice_get (y ∷ xs) j ≡ Some x) × (test x ≡ true)) → (b : Bool) → test y ≡ b → (k : ℕ) → slice_get (cond b (y ∷ filter test xs) (filter test xs)) k ≡ Some x
        → (j : ℕ) × (slice_get (y ∷ xs) j ≡ Some x) × (test x ≡ true)
    by later true passes zero at = (zero, at, ap test (sym (some_same y x at)) ∙ passes)
    by later true passes (suc k) at = later k at
    by later false passes k at = later k at

pub get-filter : {X : Type 0} (test : X → Bool) (xs : List X) (j : ℕ) (x : X) → slice_get xs j ≡ Some x → test x ≡ true → (i : ℕ) × (slice_get (filter test xs) i ≡ Some x)
get-filter test [] j x is passes = absurd (none_some x is)
get-filter {X} test (y ∷ xs) zero x is passes = by (test y) (ap test (some_same y x is) ∙ passes)
  where
    by : (b : Bool) → b ≡ true → (i : ℕ) × (slice_get (cond b (y ∷ filter test xs) (filter test xs)) i ≡ Some x)
    by true e = (zero, is)
    by false e = absurd cc
get-filter {X} test (y ∷ xs) (suc j) x is passes = by (test y) (get-filter test xs j x is passes)
  where
    by : (b : Bool) → (i : ℕ) × (slice_get (filter test xs) i ≡ Some x) → (i : ℕ) × (slice_get (cond b (y ∷ filter test xs) (filter test xs)) i ≡ Some x)
    by true rest = (suc rest.0, rest.1)
    by false rest = rest

-- ---- rows of which no two that are seen have one id

module _ (live : StagedRow → Bool) where
  abbrev pub AreOnce : List StagedRow → Type 0
  AreOnce rows = (i j : ℕ) (a b : StagedRow) → slice_get rows i ≡ Some a → slice_get rows j ≡ Some b → live a ≡ true → live b ≡ true → a.id ≡ b.id → i ≡ j

  abbrev pub AreApart : List StagedRow → List StagedRow → Type 0
  AreApart xs ys = (i j : ℕ) (a b : StagedRow) → slice_get xs i ≡ Some a → slice_get ys j ≡ Some b → live a ≡ true → live b ≡ true → a.id ≡ b.id → ⊥

  pub once-append : (xs ys : List StagedRow) → AreOnce xs → AreOnce ys → AreApart xs ys → AreOnce (xs ++ ys)
  once-append xs ys one two apart i j a b is_a is_b live_a live_b same = elim (get-append xs ys i a is_a) [
    | inl x ↦ elim (get-append xs ys j b is_b) [ inl y ↦ one i j a b x y live_a live_b same | inr y ↦ absurd (apart i y.0 a b x y.2 live_a live_b same) ]
    | inr x ↦ elim (get-append xs ys j b is_b) [
      | inl y ↦ absurd (apart j x.0 b a y x.2 live_b live_a (sym same))
      | inr y ↦ x.1 ∙ ap (λ (n : ℕ). length xs + n) (two x.0 y.0 a b x.2 y.2 live_a live_b same) ∙ sym y.1
    ]
  ]

  pub once-filter : (rows : List StagedRow) → AreOnce rows → (i j : ℕ) (a b : StagedRow) → slice_get (filter live rows) i ≡ Some a → slice_get (filter live rows) j ≡ Some b → a.id ≡ b.id → i ≡ j
  once-filter [] once i j a b is_a is_b same = absurd (none_some a is_a)
  once-filter (r ∷ rows) once i j a b is_a is_b same =
      by (λ k l x y. once-filter rows (λ m n u v is_u is_v live_u live_v e. let both = once (suc m) (suc n) u v is_u is_v live_u live_v e in omega (arith, both)) k l a b x y same) (live r) refl i j is_a is_b
    where
      -- a later one has another id
      later : (k : ℕ) (x y : StagedRow) → live r ≡ true → r ≡ x → slice_get (filter live rows) k ≡ Some y → x.id ≡ y.id → ⊥
      later k x y here is is_y e =
          let at = get-filtered live rows k y is_y in
          let both : zero ≡ suc at.0 = once zero (suc at.0) r y refl at.1 here at.2 (ap (λ (z : StagedRow). z.id) is ∙ e) in
          absurd (omega (arith, both))

      by : ((k l : ℕ) → slice_get (filter live rows) k ≡ Some a → slice_get (filter live rows) l ≡ Some b → k ≡ l) → (t : Bool) → live r ≡ t → (k l : ℕ) → slice_get (cond t (r ∷ filter live rows) (filter live rows)) k ≡ Some a
          → slice_get (cond t (r ∷ filter live rows) (filter live rows)) l ≡ Some b → k ≡ l
      by rest true here zero zero x y = refl
      by rest true here zero (suc l) x y = absurd (later l a b here (some_same r a x) y same)
      by rest true here (suc k) zero x y = absurd (later k b a here (some_same r b y) x (sym same))
      by rest true here (suc k) (suc l) x y = ap suc (rest k l x y)
      by rest false here k l x y = rest k l x y

-- ---- what is found of rows that pass a test

-- what is found of those that pass was found before, and passes
pub found-before : {X : Type 0} (test : ℕ × X → Bool) (rows : List (ℕ × X)) (id : ℕ) (x : X) → T (is_sorted nat_cmp rows) → find nat_cmp id (filter test rows) ≡ Some x → (find nat_cmp id rows ≡ Some x) × (test (id, x) ≡ true)
found-before {X} test rows id x sorted is = by (find nat_cmp id rows) refl (sym (find-filter test rows id sorted) ∙ is)
  where
    by : (o : Option X) → find nat_cmp id rows ≡ o → kept test id o ≡ Some x → (find nat_cmp id rows ≡ Some x) × (test (id, x) ≡ true)
    by None e h = absurd (none_some x h)
    by (Some y) e h = of (test (id, y)) refl h
      where
        of : (b : Bool) → test (id, y) ≡ b → cond b (Some y) None ≡ Some x → (find nat_cmp id rows ≡ Some x) × (test (id, x) ≡ true)
        of true passes g = let same = some_same y x g in (e ∙ ap Some same, ap (λ z. test (id, z)) (sym same) ∙ passes)
        of false passes g = absurd (none_some x g)

pub found-behind : {X : Type 0} (test : ℕ × X → Bool) (rows : List (ℕ × X)) (id : ℕ) (x : X) → T (is_sorted nat_cmp rows) → find nat_cmp id rows ≡ Some x → test (id, x) ≡ true → find nat_cmp id (filter test rows) ≡ Some x
found-behind test rows id x sorted is passes = find-filter test rows id sorted ∙ ap (kept test id) is ∙ ap (λ b. cond b (Some x) None) passes

pub fewer : {X : Type 0} (test : X → Bool) (xs : List X) → length (filter test xs) ≤ length xs
fewer test [] = omega arith
fewer {X} test (x ∷ xs) = by (test x) (fewer test xs)
  where
    by : (b : Bool) → length (filter test xs) ≤ length xs → length (cond b (x ∷ filter test xs) (filter test xs)) ≤ length (x ∷ xs)
    by true le = omega (arith, le)
    by false le = omega (arith, le)
