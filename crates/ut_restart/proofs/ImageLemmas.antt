-- What an image comes to: its tables, its rows in their places, and its counts.
use Rattle.std.proofs.Common.{◌≡◌, ◌≢◌, inl, inr, ℕ, zero, suc, ◌+◌, ◌<◌, ◌≤◌, Bool, true, false, List, [], ◌∷◌, ◌++◌, length, map, Option, None, Some, refl, sym, ◌∙◌, ap, subst, arith, slice_get, length-append, true≢false, eqb, ◌||◌, Vec, Global}
use Rattle.std.specs.Option.{option_map}
use Rattle.std.specs.List.{AllByRecursion, IsDistinct, list_any}
use Rattle.std.specs.FinMap as finmap
use Rattle.std.proofs.lemmas.Bool.{ne_eqb, eqb-true}
use Rattle.std.proofs.lemmas.List.{length-map}
use Rattle.std.proofs.lemmas.List.Sums.{sum_by-cons}
use Rattle.std.proofs.lemmas.Map.Steps.{length-le_from_distinct_below}
use Rattle.ut_plain.specs.declared.table.Table.{Table}
use Rattle.ut_plain.specs.declared.table.Stored.{Stored}
use Rattle.ut_plain.specs.declared.stage.Placed.{Placed}
use Rattle.ut_plain.specs.State.{State}
use Rattle.ut_plain.specs.Stages.{Stages, stages_at}
use Rattle.ut_plain.specs.Capture.{Directory, AreDistinct}
use Rattle.ut_stamps.specs.declared.place.Place.{Place}
use Rattle.ut_stamps.specs.declared.place.Place.TheVariants.{L1, L2}
use Rattle.ut_exact.specs.Places.{StagedRow, is_dead}
use Rattle.ut_staged.specs.Staged.{Staged, count_of, stages_of}
use Rattle.ut_staged.specs.Tables.{place_at}
use Rattle.ut_staged.proofs.ListLemmas.{none_some, some_same}
use Rattle.ut_table.specs.Contents.{TableValue}
use Rattle.ut_main.specs.Parts.{MainValue}
use Rattle.ut_image.specs.declared.drawn.Drawn.{Drawn}
use Rattle.ut_image.specs.Rules.{AreOwnIds}
use Rattle.ut_pages.specs.declared.root.Root.{Root}
use Rattle.ut_durable.specs.Rules.{image_ids}
use Rattle.ut_durable.specs.Bytes.{row_in}
use Rattle.ut_durable.proofs.DistinctLemmas.{distinct_by_pairs}
use Rattle.ut_reading.proofs.ListLemmas.{all_each}
use Rattle.ut_reading.proofs.StoreLemmas.{directory_base, one_base}
use Rattle.ut_restart.specs.declared.rows.Position.{Position}
use Rattle.ut_restart.specs.declared.rows.Rows as own
use Rattle.ut_restart.specs.Began.{BeginsWith}
use Rattle.ut_restart.specs.Shown.{stamp_of, staged_place, staged_all, delta_count, AreShown}
use Rattle.ut_restart.specs.Standing.{shown, staged_at}
use Rattle.ut_restart.specs.Rows.{Positions, IsSound, Keeps, position_in, position, stored_of, row_at}
use Rattle.ut_restart.specs.Noted.{Note, with_notes, deltas_noted, mains_noted, Noted}
use Rattle.ut_restart.specs.Replayed.{IsFirst}
use Rattle.ut_restart.proofs.NotedLemmas.{keys, Among, among_left, among_right, among_cases, notes-there, notes-among, noted-then}
use Rattle.ut_restart.proofs.ShownLemmas.{shown-is, heads-are, placed_in, shown-at, stages-shown, columns-shown, merges-shown, narrow-shown, place-stands, stands-place}
use Rattle.ut_restart.proofs.NoteLemmas.{list_notes, delta_notes, main_notes, deltas-notes, mains-notes, image-keys, list-long, IsThere, delta-there, main-there, stands-note}

-- ---- ids that differ are not more than there are numbers

distinct-by : (list : List ℕ) → AreDistinct list → IsDistinct eqb list
unfolding IsDistinct
distinct-by [] own = tt
distinct-by (x ∷ list) own = (others list own.0, distinct-by list own.1)
  where
    others : (ys : List ℕ) → AllByRecursion (λ (other : ℕ). other ≢ x) ys → AllByRecursion (λ y. eqb x y ≡ false) ys
    others [] none = tt
    others (y ∷ ys) none = (ne_eqb x y (λ same. none.0 (sym same)), others ys none.1)

below-by : (list : List ℕ) (next : ℕ) → AllByRecursion (λ (id : ℕ). (1 ≤ id) × (id < next)) list → (q : ℕ) → list_any (eqb q) list ≡ true → q < next
below-by [] next all q any = absurd (true≢false (sym any))
below-by (x ∷ list) next all q any = by (λ more. below-by list next all.1 q more) (eqb q x) refl
  where
    by : (list_any (eqb q) list ≡ true → q < next) → (b : Bool) → eqb q x ≡ b → q < next
    by rest true e = let same : q ≡ x = eqb-true q x e in let lt = all.0.1 in omega (arith, same, lt)
    by rest false e = rest (sym (ap (λ (b : Bool). b || list_any (eqb q) list) e) ∙ any)

positive-by : (list : List ℕ) (next : ℕ) → AllByRecursion (λ (id : ℕ). (1 ≤ id) × (id < next)) list → AllByRecursion (λ (other : ℕ). other ≢ 0) list
positive-by [] next all = tt
positive-by (x ∷ list) next all = (λ zero_id. let lt = all.0.0 in absurd (omega (arith, zero_id, lt)), positive-by list next all.1)

pub few-ids : (list : List ℕ) (next : ℕ) → 1 ≤ next → AreOwnIds next list → length list + 1 ≤ next
few-ids list next some own =
    let each = all_each (λ (id : ℕ). (1 ≤ id) × (id < next)) list own.0 in
    let count : length (0 ∷ list) ≤ next = length-le_from_distinct_below (0 ∷ list) next (distinct-by (0 ∷ list) (positive-by list next each, distinct_by_pairs list own.1)) below in
    omega (arith, count)
  where
    below : (q : ℕ) → list_any (eqb q) (0 ∷ list) ≡ true → q < next
    below q any = by (eqb q 0) refl
      where
        by : (b : Bool) → eqb q 0 ≡ b → q < next
        by true e = let same : q ≡ 0 = eqb-true q 0 e in omega (arith, same, some)
        by false e = below-by list next (all_each (λ (id : ℕ). (1 ≤ id) × (id < next)) list own.0) q (sym (ap (λ (b : Bool). b || list_any (eqb q) list) e) ∙ any)

-- ---- counts

count-notes : (n k : ℕ) (ts : List Drawn) (ms : List MainValue) (ss : Stages) → AreShown ts ms ss → count_of (staged_at (staged_all ts ss) k) ≤ length (delta_notes n ss)
count-notes n k [] [] [] all = omega arith
count-notes n k [] [] (s ∷ ss) all = absurd all
count-notes n k [] (m ∷ ms) ss all = absurd all
count-notes n k (t ∷ ts) [] ss all = absurd all
count-notes n k (t ∷ ts) (m ∷ ms) [] all = absurd all
count-notes n zero (t ∷ ts) (m ∷ ms) (s ∷ ss) all =
    omega (
      arith,
      length-map s.l1 staged_place,
      length-map s.l2 staged_place,
      list-long n L2 s.l2 all.0.rules.l2.live,
      list-long n L1 s.l1 all.0.rules.l1.live,
      length-append (list_notes n L2 s.l2 ++ list_notes n L1 s.l1) (delta_notes (suc n) ss),
      length-append (list_notes n L2 s.l2) (list_notes n L1 s.l1),
    )
count-notes n (suc k) (t ∷ ts) (m ∷ ms) (s ∷ ss) all =
    let rest = count-notes (suc n) k ts ms ss all.1 in
    omega (arith, rest, length-append (list_notes n L2 s.l2 ++ list_notes n L1 s.l1) (delta_notes (suc n) ss))

-- the deltas' rows by the notes
pub delta-count : (n : ℕ) (ts : List Drawn) (ms : List MainValue) (ss : Stages) → AreShown ts ms ss → delta_count ts ≡ length (delta_notes n ss)
delta-count n [] [] [] all = refl
delta-count n [] [] (s ∷ ss) all = absurd all
delta-count n [] (m ∷ ms) ss all = absurd all
delta-count n (t ∷ ts) [] ss all = absurd all
delta-count n (t ∷ ts) (m ∷ ms) [] all = absurd all
delta-count n (t ∷ ts) (m ∷ ms) (s ∷ ss) all =
    let rest = delta-count (suc n) ts ms ss all.1 in
    let l2 : length t.l2 ≡ length s.l2 = ap length all.0.l2 ∙ length-map s.l2 row_in in
    let l1 : length t.l1 ≡ length s.l1 = ap length all.0.l1 ∙ length-map s.l1 row_in in
    omega (
      arith,
      sum_by-cons (λ (t : Drawn). length t.l2 + length t.l1) t ts,
      rest,
      l2,
      l1,
      list-long n L2 s.l2 all.0.rules.l2.live,
      list-long n L1 s.l1 all.0.rules.l1.live,
      length-append (list_notes n L2 s.l2 ++ list_notes n L1 s.l1) (delta_notes (suc n) ss),
      length-append (list_notes n L2 s.l2) (list_notes n L1 s.l1),
    )

some-place : (o : Option Placed) (row : StagedRow) → option_map staged_place o ≡ Some row → (x : Placed) × (o ≡ Some x) × (staged_place x ≡ row)
some-place None row is = absurd (none_some row is)
some-place (Some x) row is = (x, refl, some_same (staged_place x) row is)

lives-by : (b : Bool) → is_dead (stamp_of b) ≡ false → b ≡ false
lives-by true e = e
lives-by false e = refl

-- ---- whichever directory and state it is

module _ (root : Root) (tables : List Drawn) (mains : List MainValue) (d : Directory) (s : State) (b : BeginsWith root tables mains d s) where
  abbrev notes : List Note
  notes = delta_notes 0 d.stages ++ main_notes 0 d.stages

  all : AreShown tables mains d.stages
  all = shown-is root tables mains d s b

  pub notes-same : deltas_noted 0 tables ++ mains_noted 0 tables mains ≡ delta_notes 0 d.stages ++ main_notes 0 d.stages
  notes-same = λ i. deltas-notes 0 tables mains d.stages all i ++ mains-notes 0 tables mains d.stages all i

  notes-long : length notes ≡ length (image_ids d.stages)
  notes-long = sym (length-map notes (λ (e : Note). e.0)) ∙ ap length (image-keys tables mains d.stages all)

  pub notes-few : length (deltas_noted 0 tables ++ mains_noted 0 tables mains) ≤ 2147483648
  notes-few =
      let rules = b.rules.allowed.next in
      omega (arith, ap length notes-same, notes-long, few-ids (image_ids d.stages) root.next rules.0 b.directory.ids, rules.1)

  pub tables-few : length tables ≤ 256
  tables-few = omega (arith, b.directory.few, ap length (heads-are root tables mains d s b), length-map tables (λ (t : Drawn). t.table))

  pub deltas-few : length (deltas_noted 0 tables) ≤ 2147483648
  deltas-few = omega (arith, notes-few, length-append (deltas_noted 0 tables) (mains_noted 0 tables mains))

  pub mains-few : length (deltas_noted 0 tables) + length (mains_noted 0 tables mains) ≤ 2147483648
  mains-few = omega (arith, notes-few, length-append (deltas_noted 0 tables) (mains_noted 0 tables mains))

  pub count-few : delta_count tables ≤ 2147483648
  count-few = omega (arith, delta-count 0 tables mains d.stages all, ap length (deltas-notes 0 tables mains d.stages all), deltas-few)

  pub rows-long : finmap.len s.rows ≡ length notes
  rows-long =
      let made = directory_base root d b.directory in
      ap (λ (x : State). finmap.len x.rows) (one_base root d s made.0 b.base made.1) ∙ made.2 ∙ sym notes-long

  own-keys : AreDistinct (keys notes)
  own-keys = subst AreDistinct (sym (image-keys tables mains d.stages all)) (distinct_by_pairs (image_ids d.stages) b.directory.ids.1)

  module _ (staged : List Staged) (positions : Positions) (st : staged ≡ staged_all tables d.stages) (noted_are : (q : ℕ) → positions q ≡ with_notes (λ (id : ℕ). None) (delta_notes 0 d.stages ++ main_notes 0 d.stages) q) where
    place-is : (n : ℕ) (p : Place) → place_at staged n p ≡ option_map staged_place (placed_in (stages_at d.stages n) p)
    place-is n p = ap (λ (l : List Staged). place_at l n p) st ∙ shown-at tables mains d.stages n p all

    live-at : (n : ℕ) (p : Place) (x : Placed) → placed_in (stages_at d.stages n) p ≡ Some x → x.dead ≡ false → positions x.id ≡ Some (position n p)
    live-at n p x is lives =
        let number : 0 + n ≡ n = omega arith in
        noted_are x.id ∙ notes-among (λ (id : ℕ). None) notes x.id (position n p) own-keys (elim (stands-note 0 d.stages n p x is lives) [
          | inl a ↦ among_left (delta_notes 0 d.stages) (main_notes 0 d.stages) x.id (position n p) (subst (λ (m : ℕ). Among (delta_notes 0 d.stages) x.id (position m p)) number a)
          | inr a ↦ among_right (delta_notes 0 d.stages) (main_notes 0 d.stages) x.id (position n p) (subst (λ (m : ℕ). Among (main_notes 0 d.stages) x.id (position m p)) number a)
        ])

    there-at : (id n : ℕ) (p : Place) → positions id ≡ Some (position n p) → (x : Placed) × (placed_in (stages_at d.stages n) p ≡ Some x) × (x.dead ≡ false) × (x.id ≡ id)
    there-at id n p is = elim (notes-there (λ (id : ℕ). None) notes id (position n p) (sym (noted_are id) ∙ is)) [
      | inl none ↦ absurd (none_some (position n p) none)
      | inr a ↦ elim (among_cases (delta_notes 0 d.stages) (main_notes 0 d.stages) id (position n p) a) [
        | inl delta ↦ found (delta-there 0 d.stages id (position n p) delta)
        | inr main ↦ found (main-there 0 d.stages id (position n p) main)
      ]
    ]
      where
        found : IsThere 0 d.stages id (position n p) → (x : Placed) × (placed_in (stages_at d.stages n) p ≡ Some x) × (x.dead ≡ false) × (x.id ≡ id)
        found (m, q, x, at, lives, of_id, same) =
            let number : m ≡ n = let e : 0 + m ≡ n = ap (λ (a : Position). a.table) same in omega (arith, e) in
            let place : q ≡ p = ap (λ (a : Position). a.place) same in
            (x, (λ i. placed_in (stages_at d.stages (sym number i)) (sym place i)) ∙ at, lives, of_id)

    pub first-sound : (heads : List Table) (load : ℕ) → heads ≡ map (λ (t : Drawn). t.table) tables → load ≡ length (delta_notes 0 d.stages ++ main_notes 0 d.stages) → IsSound heads staged positions load
    first-sound heads load are count = record {
      columns = ap (map (λ (x : Staged). x.columns)) st ∙ columns-shown tables mains d.stages all ∙ sym (ap (map (λ (t : Table). t.columns)) are);
      merges = ap (map (λ (x : Staged). x.merge)) st ∙ merges-shown tables mains d.stages all ∙ sym (ap (map (λ (t : Table). None)) are);
      live = λ n p row is lives.
          let x = some-place (placed_in (stages_at d.stages n) p) row (sym (place-is n p) ∙ is) in
          let alive : (x.0).dead ≡ false = lives-by (x.0).dead (ap (λ (r : StagedRow). is_dead r.stamp) x.2 ∙ lives) in
          ap (λ (r : StagedRow). positions r.id) (sym x.2) ∙ live-at n p x.0 x.1 alive;
      there = λ id n p is.
          let x = there-at id n p is in
          (staged_place x.0, place-is n p ∙ ap (option_map staged_place) x.1, ap stamp_of x.2, x.3);
      few = λ n. let c = count-notes 0 n tables mains d.stages all in omega (arith, c, ap (λ (l : List Staged). count_of (staged_at l n)) st, count, length-append (delta_notes 0 d.stages) (main_notes 0 d.stages));
      within = omega (arith, count, notes-few, ap length notes-same);
    }

    known-row : (id : ℕ) (o : Option Position) → positions id ≡ o → finmap.get s.rows id ≡ row_at staged o
    known-row id (Some at) is =
        let x = there-at id at.table at.place is in
        let stands = place-stands d.stages at.table at.place x.0 x.1 in
        ap (finmap.get s.rows) (sym x.3) ∙ b.base.rows.each at.table x.0 stands x.2
        ∙ sym (ap (option_map (stored_of at.table)) (place-is at.table at.place ∙ ap (option_map staged_place) x.1))
    known-row id None is = by (finmap.get s.rows id) refl
      where
        by : (o : Option Stored) → finmap.get s.rows id ≡ o → finmap.get s.rows id ≡ None
        by None e = e
        by (Some row) e =
            let at = b.base.rows.only id row e in
            let p = stands-place d.stages at.0 at.1 at.2 in
            absurd (none_some (position at.0 p.0) (sym is ∙ ap positions (sym at.4) ∙ live-at at.0 p.0 at.1 p.1 at.3))

    pub first-keeps : Keeps staged positions s.rows d.stages
    first-keeps = record { row = λ id. known-row id (positions id) refl; stages_are = stages-shown tables mains d.stages all ∙ sym (ap (map stages_of) st) }

-- ---- all of it

-- no id has a position
abbrev pub IsUnnoted : own.Rows → Type 0
IsUnnoted r = (q : ℕ) → position_in r.positions q ≡ None

module _ (root : Root) (tables : List Drawn) (mains : List MainValue) (start mid end : own.Rows) (heads : Vec Table Global) (stages : Vec TableValue Global) (none : IsUnnoted start) (load : start.load ≡ 0) (next : start.next ≡ root.next)
    (deltas : Noted start (deltas_noted 0 tables) mid) (parts : Noted mid (mains_noted 0 tables mains) end) (tables_are : heads.items ≡ map (λ (t : Drawn). t.table) tables)
    (stages_are : (ss : Stages) → AreShown tables mains ss → shown stages.items ≡ staged_all tables ss) where
  noted-all : Noted start (deltas_noted 0 tables ++ mains_noted 0 tables mains) end
  noted-all = noted-then start mid end (deltas_noted 0 tables) (mains_noted 0 tables mains) deltas parts

  module _ (d : Directory) (s : State) (b : BeginsWith root tables mains d s) where
    st : shown stages.items ≡ staged_all tables d.stages
    st = stages_are d.stages (shown-is root tables mains d s b)

    positions-are : (q : ℕ) → position_in end.positions q ≡ with_notes (λ (id : ℕ). None) (delta_notes 0 d.stages ++ main_notes 0 d.stages) q
    positions-are q = noted-all.positions q ∙ (λ i. with_notes (λ p. none p i) (notes-same root tables mains d s b i) q)

    load-is : end.load ≡ length (delta_notes 0 d.stages ++ main_notes 0 d.stages)
    load-is = omega (arith, noted-all.load, load, ap length (notes-same root tables mains d s b))

    sound-is : IsSound heads.items (shown stages.items) (position_in end.positions) end.load
    sound-is = first-sound root tables mains d s b (shown stages.items) (position_in end.positions) st positions-are heads.items end.load tables_are load-is

    keeps-is : Keeps (shown stages.items) (position_in end.positions) s.rows d.stages
    keeps-is = first-keeps root tables mains d s b (shown stages.items) (position_in end.positions) st positions-are

  pub first-is : (d : Directory) (s : State) → BeginsWith root tables mains d s → IsFirst root tables mains (record { tables = heads; rows = record end { stages = stages }; commits = root.commits; merges = root.merges; entries = root.length })
  first-is d0 s0 b0 = record {
    sound = record {
      rows = sound-is d0 s0 b0;
      narrow = λ i t is. narrow-shown tables mains d0.stages i t (shown-is root tables mains d0 s0 b0) (ap (λ (l : List Table). slice_get l i) (sym tables_are) ∙ is);
      counts = b0.rules.allowed.changes;
    };
    entries = refl;
    agrees = λ d s b. record {
      tables = tables_are ∙ heads-are root tables mains d s b ∙ sym b.base.tables;
      rows = keeps-is d s b;
      next = noted-all.next ∙ next ∙ sym b.base.next;
      commits = sym b.base.commits;
      merges = sym b.base.merges;
      entries = sym b.base.length;
    };
    load = λ d s b. load-is d s b ∙ sym (rows-long root tables mains d s b);
  }
