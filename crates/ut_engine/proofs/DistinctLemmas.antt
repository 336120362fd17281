-- No two live rows of stages have one id, where no two live places hold one.
use Rattle.std.proofs.Common.{◌≡◌, ◌≢◌, ⊎_elim, ℕ, zero, suc, ◌<◌, Bool, true, false, cond, List, [], ◌∷◌, ◌++◌, map, length, Some, slice_index_or, refl, sym, ◌∙◌, arith}
use Rattle.std.specs.Prelude.{Contains, slice_get}
use Rattle.std.specs.List.{filter, flat_map, AllByRecursion, AllPairs}
use Rattle.std.proofs.lemmas.List.Elements.{Contains-append_cases}
use Rattle.ut_plain.specs.Capture.{AreDistinct}
use Rattle.ut_stamps.specs.declared.place.Place.{Place}
use Rattle.ut_exact.specs.Places.{StagedRow}
use Rattle.ut_staged.specs.Staged.{Staged}
use Rattle.ut_staged.specs.Tables.{place_at}

-- ---- lists

one_less : (i j : ℕ) → suc i ≡ suc j → i ≡ j
one_less i j is = omega (arith, is)

not_in_all : (xs : List ℕ) (x : ℕ) → (Contains xs x → ⊥) → AllByRecursion (λ (other : ℕ). other ≢ x) xs
not_in_all [] x never = tt
not_in_all (y ∷ xs) x never = (λ is. never (zero, omega arith, is), not_in_all xs x (λ has. never (suc has.0, omega (arith, has.1), has.2)))

all_both : (P : ℕ → Type 0) (xs ys : List ℕ) → AllByRecursion P xs → AllByRecursion P ys → AllByRecursion P (xs ++ ys)
all_both P [] ys a b = b
all_both P (x ∷ xs) ys a b = (a.0, all_both P xs ys a.1 b)

distinct_both : (xs ys : List ℕ) → AreDistinct xs → AreDistinct ys → ((x : ℕ) → Contains xs x → Contains ys x → ⊥) → AreDistinct (xs ++ ys)
distinct_both [] ys a b apart = b
distinct_both (x ∷ xs) ys a b apart = (
  all_both (λ (other : ℕ). other ≢ x) xs ys a.0 (not_in_all ys x (λ has. apart x (zero, omega arith, refl) has)),
  distinct_both xs ys a.1 b (λ y in_xs in_ys. apart y (suc in_xs.0, omega (arith, in_xs.1), in_xs.2) in_ys),
)

-- as pairs
other_at : (x : ℕ) (xs : List ℕ) → AllByRecursion (λ (other : ℕ). other ≢ x) xs → (j d : ℕ) → j < length xs → slice_index_or xs j d ≡ x → ⊥
other_at x [] all j d within is = omega (arith, within)
other_at x (y ∷ xs) all zero d within is = all.0 is
other_at x (y ∷ xs) all (suc j) d within is = other_at x xs all.1 j d (omega (arith, within)) is

pub pairs_distinct : (xs : List ℕ) → AreDistinct xs → AllPairs (λ (a b : ℕ). a ≢ b) xs
pairs_distinct [] own i j d lt within same = omega (arith, within)
pairs_distinct (x ∷ xs) own i zero d lt within same = omega (arith, lt)
pairs_distinct (x ∷ xs) own zero (suc j) d lt within same = other_at x xs own.0 j d (omega (arith, within)) (sym same)
pairs_distinct (x ∷ xs) own (suc i) (suc j) d lt within same = pairs_distinct xs own.1 i j d (omega (arith, lt)) (omega (arith, within)) same

-- ---- the stages as lists of rows, each in its place of a table

pub record Segment : Type 0 where
  pub table : ℕ
  pub place : ℕ → Place
  pub rows : List StagedRow

-- two segments have no place in common
abbrev pub Differ : Segment → Segment → Type 0
Differ s t = s.table ≡ t.table → (i j : ℕ) → s.place i ≡ t.place j → ⊥

abbrev pub AllDiffer : List Segment → Type 0
AllDiffer [] = Unit {0}
AllDiffer (s ∷ ss) = AllByRecursion (Differ s) ss × AllDiffer ss

module _ (staged : List Staged) (live : StagedRow → Bool) where
  -- its rows stand there
  pub record IsOf (s : Segment) : Type 0 where
    pub at : (i : ℕ) (row : StagedRow) → slice_get s.rows i ≡ Some row → place_at staged s.table (s.place i) ≡ Some row
    pub one : (i j : ℕ) → s.place i ≡ s.place j → i ≡ j

  -- the ids of the live ones
  abbrev pub live_in : List StagedRow → List ℕ
  live_in rows = map (λ (r : StagedRow). r.id) (filter live rows)

  abbrev pub segment_ids : Segment → List ℕ
  segment_ids s = live_in s.rows

  abbrev pub Once : Type 0
  Once = (n m : ℕ) (p q : Place) (row other : StagedRow) → place_at staged n p ≡ Some row → place_at staged m q ≡ Some other → live row ≡ true → live other ≡ true → row.id ≡ other.id → (n ≡ m) × (p ≡ q)

  abbrev FoundAt : List StagedRow → ℕ → Type 0
  FoundAt rows id = (i : ℕ) × (row : StagedRow) × (slice_get rows i ≡ Some row) × (live row ≡ true) × (row.id ≡ id)

  in_live : (rows : List StagedRow) (id : ℕ) → Contains (live_in rows) id → FoundAt rows id
  in_live [] id (i, lt, is) = absurd (omega (arith, lt))
  in_live (r ∷ rows) id has = split (live r) refl (λ rest. let more = in_live rows id rest in (suc more.0, more.1, more.2, more.3, more.4)) has
    where
      split : (b : Bool) → live r ≡ b → (Contains (live_in rows) id → FoundAt (r ∷ rows) id) → Contains (map (λ (x : StagedRow). x.id) (cond b (r ∷ filter live rows) (filter live rows))) id → FoundAt (r ∷ rows) id
      split true here more (zero, lt, is) = (zero, r, refl, here, is)
      split true here more (suc i, lt, is) = more (i, omega (arith, lt), is)
      split false here more has = more has

  others_differ : (id : ℕ) (rows : List StagedRow) → ((j : ℕ) (q : StagedRow) → slice_get rows j ≡ Some q → live q ≡ true → q.id ≡ id → ⊥) → AllByRecursion (λ (other : ℕ). other ≢ id) (live_in rows)
  others_differ id rows none = not_in_all (live_in rows) id (λ has. let at = in_live rows id has in none at.0 at.1 at.2 at.3 at.4)

  distinct_rows : (rows : List StagedRow) → ((i j : ℕ) (p q : StagedRow) → slice_get rows i ≡ Some p → slice_get rows j ≡ Some q → live p ≡ true → live q ≡ true → p.id ≡ q.id → i ≡ j) → AreDistinct (live_in rows)
  distinct_rows [] once = tt
  distinct_rows (p ∷ rows) once = split (live p) refl (distinct_rows rows (λ i j x y a b c d e. one_less i j (once (suc i) (suc j) x y a b c d e)))
    where
      split : (b : Bool) → live p ≡ b → AreDistinct (live_in rows) → AreDistinct (map (λ (x : StagedRow). x.id) (cond b (p ∷ filter live rows) (filter live rows)))
      split true here rest = (others_differ p.id rows (λ j q is live_q same. absurd (omega (arith, once zero (suc j) p q refl is here live_q (sym same)))), rest)
      split false here rest = rest

  module _ (once : Once) where
    distinct_one : (s : Segment) → IsOf s → AreDistinct (segment_ids s)
    distinct_one s is = distinct_rows s.rows (λ i j p q a b c d e. is.one i j (once s.table s.table (s.place i) (s.place j) p q (is.at i p a) (is.at j q b) c d e).1)

    -- an id of the segment isn't one of those that differ from it
    not_later : (s : Segment) (ss : List Segment) (id : ℕ) → IsOf s → AllByRecursion IsOf ss → AllByRecursion (Differ s) ss → FoundAt s.rows id → Contains (flat_map segment_ids ss) id → ⊥
    not_later s [] id is all differ here (i, lt, same) = omega (arith, lt)
    not_later s (t ∷ ss) id is all differ here has = ⊎_elim
        (λ first.
        let there = in_live t.rows id first in
        let same = once s.table t.table (s.place here.0) (t.place there.0) here.1 there.1 (is.at here.0 here.1 here.2) (all.0.at there.0 there.1 there.2) here.3 there.3 (here.4 ∙ sym there.4) in
        differ.0 same.0 here.0 there.0 same.1)
        (λ rest. not_later s ss id is all.1 differ.1 here rest)
        (Contains-append_cases (segment_ids t) (flat_map segment_ids ss) id has)

    pub distinct_segments : (ss : List Segment) → AllByRecursion IsOf ss → AllDiffer ss → AreDistinct (flat_map segment_ids ss)
    distinct_segments [] all differ = tt
    distinct_segments (s ∷ ss) all differ = distinct_both (segment_ids s) (flat_map segment_ids ss) (distinct_one s all.0) (distinct_segments ss all.1 differ.1)
        (λ id here later. not_later s ss id all.0 all.1 differ.0 (in_live s.rows id here) later)
