-- No two rows of what a savepoint captures have one id.
use Rattle.std.proofs.Common.{◌≡◌, ◌≢◌, ℕ, zero, suc, ◌+◌, ◌≤◌, Bool, true, false, not, ◌&&◌, cond, List, [], ◌∷◌, ◌++◌, map, Option, None, Some, refl, sym, ◌∙◌, ap, subst, arith}
use Rattle.std.specs.Prelude.{is_some, slice_get}
use Rattle.std.specs.List.{filter, flat_map, AllByRecursion, AllPairs}
use Rattle.std.specs.Option.{option_map, unwrap_or}
use Rattle.std.specs.FinMap as finmap
use Rattle.std.proofs.lemmas.List.{map-append, append_assoc, append-nil}
use Rattle.ut_plain.specs.declared.stage.Placed.{Placed}
use Rattle.ut_plain.specs.Rows.{Rows}
use Rattle.ut_plain.specs.Stages.{Stages}
use Rattle.ut_plain.specs.Journal.{current}
use Rattle.ut_plain.specs.Plain.{Plain}
use Rattle.ut_plain.specs.Capture.{is_live, captured_place, captured_rows, captured_table, capture, ids, AreDistinct}
use Rattle.ut_stamps.specs.declared.place.Place.{Place}
use Rattle.ut_stamps.specs.declared.place.Place.TheVariants.{L1, L2, Closed, Main}
use Rattle.ut_exact.specs.Places.{StagedRow, is_dead}
use Rattle.ut_staged.specs.Staged.{Staged, row_in, placed_of, stages_of}
use Rattle.ut_staged.specs.Tables.{place_at}
use Rattle.ut_staged.proofs.TableLemmas.{here}
use Rattle.ut_durable.specs.Rules.{delta_ids, live_ids, part_ids, image_ids}
use Rattle.ut_store.specs.Held.{Held}
use Rattle.ut_store.specs.Stands.{AreRows}
use Rattle.ut_engine.proofs.DistinctLemmas.{Segment, Differ, AllDiffer, IsOf, segment_ids, pairs_distinct, distinct_segments}

-- ---- the segments of tables

abbrev closed_rows : Staged → List StagedRow
closed_rows s = unwrap_or s.closed []

abbrev delta_segments : ℕ → Staged → List Segment
delta_segments n s =
    record { table = n; place = Closed; rows = closed_rows s } ∷ record { table = n; place = L2; rows = s.l2 } ∷ record { table = n; place = L1; rows = s.l1 } ∷ []

abbrev deltas_from : ℕ → List Staged → List Segment
deltas_from n [] = []
deltas_from n (s ∷ ss) = delta_segments n s ++ deltas_from (suc n) ss

abbrev part_segments : ℕ → ℕ → List (List StagedRow) → List Segment
part_segments n p [] = []
part_segments n p (rows ∷ parts) = record { table = n; place = Main p; rows = rows } ∷ part_segments n (suc p) parts

abbrev parts_from : ℕ → List Staged → List Segment
parts_from n [] = []
parts_from n (s ∷ ss) = part_segments n 0 s.parts ++ parts_from (suc n) ss

-- ---- their ids

append_flat : {X : Type 0} (f : X → List ℕ) (xs ys : List X) → flat_map f (xs ++ ys) ≡ flat_map f xs ++ flat_map f ys
append_flat f [] ys = refl
append_flat f (x ∷ xs) ys = ap (λ (l : List ℕ). f x ++ l) (append_flat f xs ys) ∙ sym (append_assoc (f x) (flat_map f xs) (flat_map f ys))

module _ (rows : Rows) where
  abbrev live : StagedRow → Bool
  live row = is_live rows (placed_of row)

  ids_live : (list : List StagedRow) → ids (captured_rows rows (map placed_of list)) ≡ map (λ (r : StagedRow). r.id) (filter live list)
  ids_live [] = refl
  ids_live (r ∷ list) = split (live r) (ids_live list)
    where
      split : (b : Bool) → ids (captured_rows rows (map placed_of list)) ≡ map (λ (x : StagedRow). x.id) (filter live list)
          → ids (cond b (placed_of r ∷ captured_rows rows (map placed_of list)) (captured_rows rows (map placed_of list))) ≡ map (λ (x : StagedRow). x.id) (cond b (r ∷ filter live list) (filter live list))
      split true rest = ap (λ (l : List ℕ). r.id ∷ l) rest
      split false rest = rest

  closed_live : (closed : Option (List StagedRow)) → ids (captured_rows rows (unwrap_or (option_map (map placed_of) closed) [])) ≡ map (λ (r : StagedRow). r.id) (filter live (unwrap_or closed []))
  closed_live None = refl
  closed_live (Some list) = ids_live list

  part_live : (list : List StagedRow) → live_ids (map (captured_place rows) (map placed_of list)) ≡ map (λ (r : StagedRow). r.id) (filter live list)
  part_live [] = refl
  part_live (r ∷ list) = split (live r) (part_live list)
    where
      split : (b : Bool) → live_ids (map (captured_place rows) (map placed_of list)) ≡ map (λ (x : StagedRow). x.id) (filter live list)
          → ids (cond (not (not b)) (record { id = r.id; values = r.values; dead = not b } ∷ filter (λ (p : Placed). not p.dead) (map (captured_place rows) (map placed_of list))) (filter (λ (p : Placed). not p.dead) (map (captured_place rows) (map placed_of list))))
          ≡ map (λ (x : StagedRow). x.id) (cond b (r ∷ filter live list) (filter live list))
      split true rest = ap (λ (l : List ℕ). r.id ∷ l) rest
      split false rest = rest

  module _ (staged : List Staged) where
    abbrev of : Segment → List ℕ
    of = segment_ids staged live

    delta_same : (n : ℕ) (s : Staged) → flat_map of (delta_segments n s) ≡ delta_ids (captured_table rows (stages_of s))
    delta_same n s =
        let closed : List Placed = captured_rows rows (unwrap_or (option_map (map placed_of) s.closed) []) in
        let l2 : List Placed = captured_rows rows (map placed_of s.l2) in
        let l1 : List Placed = captured_rows rows (map placed_of s.l1) in
        (λ i. sym (closed_live s.closed) i ++ (sym (ids_live s.l2) i ++ (sym (ids_live s.l1) i ++ [])))
        ∙ ap (λ (l : List ℕ). ids closed ++ (ids l2 ++ l)) (append-nil (ids l1))
        ∙ sym (append_assoc (ids closed) (ids l2) (ids l1))
        ∙ ap (λ (l : List ℕ). l ++ ids l1) (sym (map-append (λ (p : Placed). p.id) closed l2))

    deltas_same : (n : ℕ) (ss : List Staged) → flat_map of (deltas_from n ss) ≡ flat_map delta_ids (map (captured_table rows) (map stages_of ss))
    deltas_same n [] = refl
    deltas_same n (s ∷ ss) = append_flat of (delta_segments n s) (deltas_from (suc n) ss) ∙ (λ i. delta_same n s i ++ deltas_same (suc n) ss i)

    table_parts_same : (n p : ℕ) (parts : List (List StagedRow)) → flat_map of (part_segments n p parts) ≡ flat_map live_ids (map (map (captured_place rows)) (map (map placed_of) parts))
    table_parts_same n p [] = refl
    table_parts_same n p (list ∷ parts) = λ i. sym (part_live list) i ++ table_parts_same n (suc p) parts i

    parts_same : (n : ℕ) (ss : List Staged) → flat_map of (parts_from n ss) ≡ flat_map part_ids (map (captured_table rows) (map stages_of ss))
    parts_same n [] = refl
    parts_same n (s ∷ ss) = append_flat of (part_segments n 0 s.parts) (parts_from (suc n) ss) ∙ (λ i. table_parts_same n 0 s.parts i ++ parts_same (suc n) ss i)

    abbrev segments : List Segment
    segments = deltas_from 0 staged ++ parts_from 0 staged

    ids_same : flat_map of segments ≡ image_ids (map (captured_table rows) (map stages_of staged))
    ids_same = append_flat of (deltas_from 0 staged) (parts_from 0 staged) ∙ (λ i. deltas_same 0 staged i ++ parts_same 0 staged i)

    -- ---- they are those of the tables

    -- these tables stand in the list from this number on
    abbrev StandFrom : ℕ → List Staged → Type 0
    StandFrom n ss = (k : ℕ) (s : Staged) → slice_get ss k ≡ Some s → slice_get staged (n + k) ≡ Some s

    later : (n : ℕ) (s : Staged) (ss : List Staged) → StandFrom n (s ∷ ss) → StandFrom (suc n) ss
    later n s ss from k t is = let same : suc n + k ≡ n + suc k = omega arith in ap (slice_get staged) same ∙ from (suc k) t is

    first : (n : ℕ) (s : Staged) (ss : List Staged) → StandFrom n (s ∷ ss) → slice_get staged n ≡ Some s
    first n s ss from = let same : n ≡ n + zero = omega arith in ap (slice_get staged) same ∙ from zero s refl

    all_segments : (P : Segment → Type 0) (xs ys : List Segment) → AllByRecursion P xs → AllByRecursion P ys → AllByRecursion P (xs ++ ys)
    all_segments P [] ys a b = b
    all_segments P (x ∷ xs) ys a b = (a.0, all_segments P xs ys a.1 b)

    closed_at : (closed : Option (List StagedRow)) (i : ℕ) (row : StagedRow) → slice_get (unwrap_or closed []) i ≡ Some row → row_in closed i ≡ Some row
    closed_at None i row is = absurd (nothing i is)
      where
        nothing : (i : ℕ) → slice_get [] i ≡ Some row → ⊥
        nothing i is = cc
    closed_at (Some list) i row is = is

    deltas_of : (n : ℕ) (ss : List Staged) → StandFrom n ss → AllByRecursion (IsOf staged live) (deltas_from n ss)
    deltas_of n [] from = tt
    deltas_of n (s ∷ ss) from =
        let at = first n s ss from in (
          record { at = λ i row is. here staged n s (Closed i) at ∙ closed_at s.closed i row is; one = λ i j is. cc },
          (
            record { at = λ i row is. here staged n s (L2 i) at ∙ is; one = λ i j is. cc },
            (
              record { at = λ i row is. here staged n s (L1 i) at ∙ is; one = λ i j is. cc },
              deltas_of (suc n) ss (later n s ss from),
            ),
          ),
        )

    -- these parts stand in a table from this number on
    table_parts_of : (n p : ℕ) (s : Staged) (parts : List (List StagedRow)) → slice_get staged n ≡ Some s → ((k : ℕ) (list : List StagedRow) → slice_get parts k ≡ Some list → slice_get s.parts (p + k) ≡ Some list)
        → AllByRecursion (IsOf staged live) (part_segments n p parts)
    table_parts_of n p s [] at from = tt
    table_parts_of n p s (list ∷ parts) at from =
        let same : p ≡ p + zero = omega arith in
        let part : slice_get s.parts p ≡ Some list = ap (slice_get s.parts) same ∙ from zero list refl in (
          record { at = λ i row is. here staged n s (Main p i) at ∙ ap (λ (o : Option (List StagedRow)). row_in o i) part ∙ is; one = λ i j is. cc },
          table_parts_of n (suc p) s parts at (λ k l is. let next : suc p + k ≡ p + suc k = omega arith in ap (slice_get s.parts) next ∙ from (suc k) l is),
        )

    parts_of : (n : ℕ) (ss : List Staged) → StandFrom n ss → AllByRecursion (IsOf staged live) (parts_from n ss)
    parts_of n [] from = tt
    parts_of n (s ∷ ss) from =
        all_segments (IsOf staged live) (part_segments n 0 s.parts) (parts_from (suc n) ss) (table_parts_of n 0 s s.parts (first n s ss from) (λ k l is. let same : 0 + k ≡ k = omega arith in ap (slice_get s.parts) same ∙ is)) (parts_of (suc n) ss (later n s ss from))

    -- ---- and no two have a place in common

    abbrev IsDelta : Segment → Type 0
    IsDelta s = (p i j : ℕ) → s.place i ≡ Main p j → ⊥

    deltas_later : (m n : ℕ) (ss : List Staged) → m ≤ n → AllByRecursion (λ (t : Segment). m ≤ t.table) (deltas_from n ss)
    deltas_later m n [] le = tt
    deltas_later m n (s ∷ ss) le = (le, (le, (le, deltas_later m (suc n) ss (omega (arith, le)))))

    table_parts_later : (m n p : ℕ) (parts : List (List StagedRow)) → m ≤ n → AllByRecursion (λ (t : Segment). m ≤ t.table) (part_segments n p parts)
    table_parts_later m n p [] le = tt
    table_parts_later m n p (list ∷ parts) le = (le, table_parts_later m n (suc p) parts le)

    parts_later : (m n : ℕ) (ss : List Staged) → m ≤ n → AllByRecursion (λ (t : Segment). m ≤ t.table) (parts_from n ss)
    parts_later m n [] le = tt
    parts_later m n (s ∷ ss) le = all_segments (λ (t : Segment). m ≤ t.table) (part_segments n 0 s.parts) (parts_from (suc n) ss) (table_parts_later m n 0 s.parts le) (parts_later m (suc n) ss (omega (arith, le)))

    differ_later : (s : Segment) (ts : List Segment) → AllByRecursion (λ (t : Segment). suc s.table ≤ t.table) ts → AllByRecursion (Differ s) ts
    differ_later s [] all = tt
    differ_later s (t ∷ ts) all = (λ same i j is. omega (arith, same, all.0), differ_later s ts all.1)

    deltas_differ : (n : ℕ) (ss : List Staged) → AllDiffer (deltas_from n ss)
    deltas_differ n [] = tt
    deltas_differ n (s ∷ ss) =
        let rest = deltas_later (suc n) (suc n) ss (omega arith) in (
          (λ same i j is. cc, (λ same i j is. cc, differ_later (record { table = n; place = Closed; rows = closed_rows s }) (deltas_from (suc n) ss) rest)),
          (
            (λ same i j is. cc, differ_later (record { table = n; place = L2; rows = s.l2 }) (deltas_from (suc n) ss) rest),
            (
              differ_later (record { table = n; place = L1; rows = s.l1 }) (deltas_from (suc n) ss) rest,
              deltas_differ (suc n) ss,
            ),
          ),
        )

    -- later parts of a table
    main_later : (n p q : ℕ) (rows : List StagedRow) (parts : List (List StagedRow)) → suc p ≤ q → AllByRecursion (Differ (record { table = n; place = Main p; rows = rows })) (part_segments n q parts)
    main_later n p q rows [] le = tt
    main_later n p q rows (list ∷ parts) le = (λ same i j is. let at : p ≡ q = part_number p q i j is in omega (arith, at, le), main_later n p (suc q) rows parts (omega (arith, le)))
      where
        part_number : (p q i j : ℕ) → Main p i ≡ Main q j → p ≡ q
        part_number p q i j is = cc

    part_differ : (n p : ℕ) (parts : List (List StagedRow)) (more : List Segment) → AllByRecursion (λ (t : Segment). suc n ≤ t.table) more → AllDiffer more → AllDiffer (part_segments n p parts ++ more)
    part_differ n p [] more all differ = differ
    part_differ n p (list ∷ parts) more all differ =
        let s : Segment = record { table = n; place = Main p; rows = list } in (
          all_segments (Differ s) (part_segments n (suc p) parts) more (main_later n p (suc p) list parts (omega arith)) (differ_later s more all),
          part_differ n (suc p) parts more all differ,
        )

    parts_differ : (n : ℕ) (ss : List Staged) → AllDiffer (parts_from n ss)
    parts_differ n [] = tt
    parts_differ n (s ∷ ss) = part_differ n 0 s.parts (parts_from (suc n) ss) (parts_later (suc n) (suc n) ss (omega arith)) (parts_differ (suc n) ss)

    abbrev IsPart : Segment → Type 0
    IsPart t = (j : ℕ) → (p : ℕ) × (i : ℕ) × (t.place j ≡ Main p i)

    table_are_parts : (n p : ℕ) (parts : List (List StagedRow)) → AllByRecursion IsPart (part_segments n p parts)
    table_are_parts n p [] = tt
    table_are_parts n p (list ∷ parts) = (λ j. (p, j, refl), table_are_parts n (suc p) parts)

    are_parts : (n : ℕ) (ss : List Staged) → AllByRecursion IsPart (parts_from n ss)
    are_parts n [] = tt
    are_parts n (s ∷ ss) = all_segments IsPart (part_segments n 0 s.parts) (parts_from (suc n) ss) (table_are_parts n 0 s.parts) (are_parts (suc n) ss)

    are_deltas : (n : ℕ) (ss : List Staged) → AllByRecursion IsDelta (deltas_from n ss)
    are_deltas n [] = tt
    are_deltas n (s ∷ ss) = (λ p i j is. cc, (λ p i j is. cc, (λ p i j is. cc, are_deltas (suc n) ss)))

    delta_differs : (s : Segment) (ts : List Segment) → IsDelta s → AllByRecursion IsPart ts → AllByRecursion (Differ s) ts
    delta_differs s [] is all = tt
    delta_differs s (t ∷ ts) is all = (λ same i j at. let part = all.0 j in is part.0 i part.1 (at ∙ part.2), delta_differs s ts is all.1)

    both_differ : (ss ts : List Segment) → AllByRecursion IsDelta ss → AllByRecursion IsPart ts → AllDiffer ss → AllDiffer ts → AllDiffer (ss ++ ts)
    both_differ [] ts a b own other = other
    both_differ (s ∷ ss) ts a b own other = (all_segments (Differ s) ss ts own.0 (delta_differs s ts a.0 b), both_differ ss ts a.1 b own.1 other)

    from_start : StandFrom 0 staged
    from_start k s is = let same : 0 + k ≡ k = omega arith in ap (slice_get staged) same ∙ is

    pub image_distinct : ((n m : ℕ) (p q : Place) (row other : StagedRow) → place_at staged n p ≡ Some row → place_at staged m q ≡ Some other → live row ≡ true → live other ≡ true → row.id ≡ other.id → (n ≡ m) × (p ≡ q))
        → AllPairs (λ a b. a ≢ b) (image_ids (map (captured_table rows) (map stages_of staged)))
    image_distinct once =
        let of_tables = all_segments (IsOf staged live) (deltas_from 0 staged) (parts_from 0 staged) (deltas_of 0 staged from_start) (parts_of 0 staged from_start) in
        let differ = both_differ (deltas_from 0 staged) (parts_from 0 staged) (are_deltas 0 staged) (are_parts 0 staged) (deltas_differ 0 staged) (parts_differ 0 staged) in
        pairs_distinct (image_ids (map (captured_table rows) (map stages_of staged))) (subst AreDistinct ids_same (distinct_segments staged live once segments of_tables differ))

and_first : (a b : Bool) → (a && b) ≡ true → a ≡ true
and_first true b is = refl
and_first false b is = is

not_true : (a : Bool) → not a ≡ true → a ≡ false
not_true true is = sym is
not_true false is = refl

pub captured_distinct : (e : Held) (p : Plain) → AreRows e p → AllPairs (λ a b. a ≢ b) (image_ids (capture (current p.journal) p.stages).stages)
captured_distinct e p rows = subst (λ (l : Stages). AllPairs (λ a b. a ≢ b) (image_ids (map (captured_table (current p.journal).rows) l))) (sym rows.stages)
    (image_distinct (current p.journal).rows e.rows.staged (λ n m x y row other a b c d same. rows.places.once n m x y row other a b (alive row c) (alive other d) same))
  where
    alive : (row : StagedRow) → is_live (current p.journal).rows (placed_of row) ≡ true → is_dead row.stamp ≡ false
    alive row live_row = not_true (is_dead row.stamp) (and_first (not (is_dead row.stamp)) (is_some (finmap.get (current p.journal).rows row.id)) live_row)
