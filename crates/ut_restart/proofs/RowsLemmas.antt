-- A row more, and a row that is nobody's any more, keep the positions.
use Rattle.std.proofs.Common.{ℕ, zero, suc, ◌+◌, ◌<◌, ◌≤◌, ◌≡◌, ◌≢◌, inl, inr, true, false, cond, List, [], ◌∷◌, length, map, Option, None, Some, refl, sym, ap, ◌∙◌, arith, slice_get, slice_set, unwrap_or, IsTrue, eq-eqb, length-append, true≢false}
use Rattle.std.proofs.lemmas.Bool.{cases_eq}
use Rattle.std.proofs.lemmas.List.{length-map}
use Rattle.std.specs.Option.{option_map}
use Rattle.std.specs.FinMap as finmap
use Rattle.ut_value.specs.declared.value.Row.{Row}
use Rattle.ut_value.specs.declared.value.Column.{Column}
use Rattle.ut_value.specs.declared.value.Value.{Value}
use Rattle.ut_value.specs.declared.entry.Op.TheVariants as ops
use Rattle.ut_plain.specs.declared.table.Table.{Table}
use Rattle.ut_plain.specs.declared.table.Stored.{Stored}
use Rattle.ut_plain.specs.Tables.{columns_at, fits_table, fits_columns}
use Rattle.ut_plain.specs.Rows.{Rows, with_op}
use Rattle.ut_plain.specs.Stages.{Stages, with_stages, entered, placed}
use Rattle.ut_plain.specs.Restart.{with_dead}
use Rattle.ut_plain.proofs.RowLaws.{get-with_op, op_at-other}
use Rattle.ut_stamps.specs.declared.visibility.Stamp.{Stamp}
use Rattle.ut_stamps.specs.declared.place.Place.{Place}
use Rattle.ut_stamps.specs.declared.place.Place.TheVariants.{L1, L2, Closed, Main}
use Rattle.ut_exact.specs.Places.{StagedRow, is_dead}
use Rattle.ut_exact.proofs.FateLemmas.{other_number}
use Rattle.ut_staged.specs.Staged.{Staged, count_of, entered_l1}
use Rattle.ut_staged.specs.Tables.{place_at}
use Rattle.ut_staged.proofs.ListLemmas.{none_some, some_same, get-within}
use Rattle.ut_staged.proofs.TableLemmas.{map-kept}
use Rattle.ut_table.specs.Filled.{restamped, restamped_at}
use Rattle.ut_restart.specs.declared.rows.Position.{Position}
use Rattle.ut_restart.specs.Shown.{stamp_of}
use Rattle.ut_restart.specs.Standing.{staged_at, live_row, entered_in, buried_in, CanEnter}
use Rattle.ut_restart.specs.Rows.{Positions, Changed, IsSet, IsSound, Keeps, position, stored_of, row_at}
use Rattle.ut_restart.proofs.StageLemmas.{get-at, place-within, entered-changed, entered-free, entered-stages, buried-changed, buried-stages}

-- ---- a table

-- a row that fits has its table
pub fits-below : (tables : List Table) (table : ℕ) (vs : List Value) → IsTrue (fits_table (columns_at tables table) vs) → table < length tables
fits-below tables table vs h = by (slice_get tables table) refl
  where
    by : (o : Option Table) → slice_get tables table ≡ o → table < length tables
    by None e = let wrong : false ≡ true = sym (ap (λ o. fits_table (option_map (λ (t : Table). t.columns) o) vs) e) ∙ h in cc
    by (Some t) e = get-within tables table t e

fits-at : (tables : List Table) (staged : List Staged) (n : ℕ) (vs : List Value) → map (λ (s : Staged). s.columns) staged ≡ map (λ (t : Table). t.columns) tables → IsTrue (fits_table (columns_at tables n) vs) → IsTrue (fits_columns (staged_at staged n).columns vs)
fits-at [] staged n vs same h = cc
fits-at (t ∷ tables) [] n vs same h = cc
fits-at (t ∷ tables) (s ∷ staged) zero vs same h = let e : s.columns ≡ t.columns = cc in ap (λ (cs : List Column). fits_columns cs vs) e ∙ h
fits-at (t ∷ tables) (s ∷ staged) (suc n) vs same h = let e : map (λ (s : Staged). s.columns) staged ≡ map (λ (t : Table). t.columns) tables = cc in fits-at tables staged n vs e h

pub tables-long : (tables : List Table) (staged : List Staged) (positions : Positions) (load : ℕ) → IsSound tables staged positions load → length staged ≡ length tables
tables-long tables staged positions load s = sym (length-map staged (λ (s : Staged). s.columns)) ∙ ap length s.columns ∙ length-map tables (λ (t : Table). t.columns)

pub can-enter : (tables : List Table) (staged : List Staged) (positions : Positions) (load n : ℕ) (row : Row) → IsSound tables staged positions load → IsTrue (fits_table (columns_at tables n) row.values) → load < 2147483648 → CanEnter staged n row
can-enter tables staged positions load n row s fits few = record {
  there = omega (arith, fits-below tables n row.values fits, tables-long tables staged positions load s);
  fits = fits-at tables staged n row.values s.columns fits;
  few = omega (arith, s.few n, few);
}

-- the count of a table where that of one changes
count-set : (staged : List Staged) (n m : ℕ) (new : Staged) (load : ℕ) → count_of new ≤ load → ((k : ℕ) → count_of (staged_at staged k) ≤ load) → count_of (staged_at (slice_set staged n new) m) ≤ load
count-set [] n m new load here each = each m
count-set (s ∷ staged) zero zero new load here each = here
count-set (s ∷ staged) zero (suc m) new load here each = each (suc m)
count-set (s ∷ staged) (suc n) zero new load here each = each 0
count-set (s ∷ staged) (suc n) (suc m) new load here each = count-set staged n m new load here (λ k. each (suc k))

-- ---- what changes in one place

inside : {X : Type 0} (a b : X) → Some a ≡ Some b → a ≡ b
inside a b e = cc

table-is : {n m : ℕ} {p q : Place} → Some (position n p) ≡ Some (position m q) → n ≡ m
table-is {n} {m} {p} {q} e = ap (λ (at : Position). at.table) (inside (position n p) (position m q) e)

place-is : {n m : ℕ} {p q : Place} → Some (position n p) ≡ Some (position m q) → p ≡ q
place-is {n} {m} {p} {q} e = ap (λ (at : Position). at.place) (inside (position n p) (position m q) e)

abbrev AreLive : List Staged → Positions → Type 0
AreLive staged positions = (n : ℕ) (p : Place) (row : StagedRow) → place_at staged n p ≡ Some row → is_dead row.stamp ≡ false → positions row.id ≡ Some (position n p)

abbrev AreThere : List Staged → Positions → Type 0
AreThere staged positions = (id n : ℕ) (p : Place) → positions id ≡ Some (position n p) → (row : StagedRow) × (place_at staged n p ≡ Some row) × (row.stamp ≡ stamp_of false) × (row.id ≡ id)

-- the rows are the same where each position holds the same
row-same : (old new : List Staged) (at : Option Position) → ((n : ℕ) (p : Place) → at ≡ Some (position n p) → place_at new n p ≡ place_at old n p) → row_at old at ≡ row_at new at
row-same old new None h = refl
row-same old new (Some at) h = ap (option_map (stored_of at.table)) (sym (h at.table at.place refl))

-- ---- a row more

module _ (old new : List Staged) (was now : Positions) (n : ℕ) (p : Place) (row : StagedRow) (live : AreLive old was) (there : AreThere old was) (born : row.stamp ≡ stamp_of false) (change : Changed old new n p row) (free : place_at old n p ≡ None)
    (unknown : was row.id ≡ None) (set : IsSet was now row.id (Some (position n p))) where
  pub added-live : AreLive new now
  added-live m q r is lives = elim (change.others m q) [
    | inl at ↦
        let same : r ≡ row = some_same r row (sym is ∙ (λ i. place_at new (at.0 i) (at.1 i)) ∙ change.here) in
        ap (λ (x : StagedRow). now x.id) same ∙ set.here ∙ (λ i. Some (position (sym at.0 i) (sym at.1 i)))
    | inr stays ↦
        let before = live m q r (sym stays ∙ is) lives in
        set.others r.id (λ same. none_some (position m q) (sym unknown ∙ ap was (sym same) ∙ before)) ∙ before
  ]

  stays-at : (id m : ℕ) (q : Place) → was id ≡ Some (position m q) → place_at new m q ≡ place_at old m q
  stays-at id m q is = elim (change.others m q) [
    | inl at ↦ let f = there id m q is in absurd (none_some f.0 (sym free ∙ (λ i. place_at old (sym at.0 i) (sym at.1 i)) ∙ f.1))
    | inr stays ↦ stays
  ]

  pub added-there : AreThere new now
  added-there id m q is = elim (cases_eq id row.id) [
    | inl same ↦
        let at = sym set.here ∙ ap now (sym same) ∙ is in
        (row, (λ i. place_at new (sym (table-is at) i) (sym (place-is at) i)) ∙ change.here, born, sym same)
    | inr other ↦
        let before = sym (set.others id other) ∙ is in
        let f = there id m q before in
        (f.0, stays-at id m q before ∙ f.1, f.2, f.3)
  ]

  pub added-rows : (rows : Rows) → ((id : ℕ) → finmap.get rows id ≡ row_at old (was id)) → (id : ℕ) → finmap.get (with_op rows (ops.Insert n row.id row.values)) id ≡ row_at new (now id)
  added-rows rows each id = get-with_op rows (ops.Insert n row.id row.values) id ∙ elim (cases_eq id row.id) [
    | inl same ↦ ap (λ b. cond b (Some (stored_of n row)) (finmap.get rows id)) (eq-eqb id row.id same)
        ∙ sym (ap (row_at new) (ap now same ∙ set.here) ∙ ap (option_map (stored_of n)) change.here)
    | inr other ↦ op_at-other id (ops.Insert n row.id row.values) (finmap.get rows id) (other_number id row.id other) ∙ each id
        ∙ row-same old new (was id) (λ m q is. stays-at id m q is)
        ∙ ap (row_at new) (sym (set.others id other))
  ]

-- ---- a row that is nobody's any more

module _ (old new : List Staged) (was now : Positions) (id n : ℕ) (p : Place) (row : StagedRow) (live : AreLive old was) (there : AreThere old was) (change : Changed old new n p (record row { stamp = stamp_of true })) (is_row : place_at old n p ≡ Some row)
    (of_id : row.id ≡ id) (known : was id ≡ Some (position n p)) (set : IsSet was now id None) where
  pub one-place : (m : ℕ) (q : Place) (r : StagedRow) → place_at old m q ≡ Some r → is_dead r.stamp ≡ false → r.id ≡ id → (m ≡ n) × (q ≡ p)
  one-place m q r is lives same = let e = sym (live m q r is lives) ∙ ap was same ∙ known in (table-is e, place-is e)

  pub dead-live : AreLive new now
  dead-live m q r is lives = elim (change.others m q) [
    | inl at ↦
        let same : r ≡ record row { stamp = stamp_of true } = some_same r (record row { stamp = stamp_of true }) (sym is ∙ (λ i. place_at new (at.0 i) (at.1 i)) ∙ change.here) in
        absurd (true≢false (sym (ap (λ (x : StagedRow). is_dead x.stamp) same) ∙ lives))
    | inr stays ↦
        let was_at = sym stays ∙ is in
        set.others r.id (λ same.
        let at = one-place m q r was_at lives same in
        let dead : r ≡ record row { stamp = stamp_of true } = some_same r (record row { stamp = stamp_of true }) (sym is ∙ (λ i. place_at new (at.0 i) (at.1 i)) ∙ change.here) in
        true≢false (sym (ap (λ (x : StagedRow). is_dead x.stamp) dead) ∙ lives)) ∙ live m q r was_at lives
  ]

  stays-there : (other m : ℕ) (q : Place) → other ≢ id → was other ≡ Some (position m q) → place_at new m q ≡ place_at old m q
  stays-there other m q differ is = elim (change.others m q) [
    | inl at ↦
        let f = there other m q is in
        let same : f.0 ≡ row = some_same f.0 row (sym f.1 ∙ (λ i. place_at old (at.0 i) (at.1 i)) ∙ is_row) in
        absurd (differ (sym f.3 ∙ ap (λ (x : StagedRow). x.id) same ∙ of_id))
    | inr stays ↦ stays
  ]

  pub dead-there : AreThere new now
  dead-there other m q is = elim (cases_eq other id) [
    | inl same ↦ absurd (none_some (position m q) (sym set.here ∙ ap now (sym same) ∙ is))
    | inr differ ↦
        let before = sym (set.others other differ) ∙ is in
        let f = there other m q before in
        (f.0, stays-there other m q differ before ∙ f.1, f.2, f.3)
  ]

  pub dead-rows : (rows : Rows) → ((q : ℕ) → finmap.get rows q ≡ row_at old (was q)) → (q : ℕ) → finmap.get (with_op rows (ops.Delete n id)) q ≡ row_at new (now q)
  dead-rows rows each q = get-with_op rows (ops.Delete n id) q ∙ elim (cases_eq q id) [
    | inl same ↦ ap (λ b. cond b None (finmap.get rows q)) (eq-eqb q id same) ∙ sym (ap (row_at new) (ap now same ∙ set.here))
    | inr other ↦ op_at-other q (ops.Delete n id) (finmap.get rows q) (other_number q id other) ∙ each q
        ∙ row-same old new (was q) (λ m r is. stays-there q m r other is)
        ∙ ap (row_at new) (sym (set.others q other))
  ]

-- ---- all of it

count-entered : (row : StagedRow) (s : Staged) → count_of (entered_l1 row s) ≡ count_of s + 1
count-entered row s = omega (arith, length-append s.l1 (row ∷ []))

pub IsSound-added : (tables : List Table) (staged : List Staged) (was now : Positions) (load n : ℕ) (row : Row) → IsSound tables staged was load → IsTrue (fits_table (columns_at tables n) row.values) → load < 2147483648 → was row.id ≡ None
    → IsSet was now row.id (Some (position n (L1 (length (staged_at staged n).l1)))) → IsSound tables (entered_in staged n row) now (load + 1)
IsSound-added tables staged was now load n row s fits few unknown set =
    let there : n < length staged = omega (arith, fits-below tables n row.values fits, tables-long tables staged was load s) in
    let at = get-at staged n there in
    let new = entered_l1 (live_row row) (staged_at staged n) in
    let change = entered-changed staged n row there in
    record {
      columns = map-kept (λ (x : Staged). x.columns) staged n (staged_at staged n) new at refl ∙ s.columns;
      merges = map-kept (λ (x : Staged). x.merge) staged n (staged_at staged n) new at refl ∙ s.merges;
      live = added-live staged (entered_in staged n row) was now n (L1 (length (staged_at staged n).l1)) (live_row row) s.live s.there refl change (entered-free staged n row there) unknown set;
      there = added-there staged (entered_in staged n row) was now n (L1 (length (staged_at staged n).l1)) (live_row row) s.live s.there refl change (entered-free staged n row there) unknown set;
      few = λ m. count-set staged n m new (load + 1) (omega (arith, count-entered (live_row row) (staged_at staged n), s.few n)) (λ k. omega (arith, s.few k));
      within = omega (arith, few);
    }

pub Keeps-added : (tables : List Table) (staged : List Staged) (was now : Positions) (load n : ℕ) (row : Row) → IsSound tables staged was load → IsTrue (fits_table (columns_at tables n) row.values) → was row.id ≡ None
    → IsSet was now row.id (Some (position n (L1 (length (staged_at staged n).l1)))) → (rows : Rows) (stages : Stages) → Keeps staged was rows stages
    → Keeps (entered_in staged n row) now (with_op rows (ops.Insert n row.id row.values)) (with_stages (entered false (placed row.id row.values)) n stages)
Keeps-added tables staged was now load n row s fits unknown set rows stages k =
    let there : n < length staged = omega (arith, fits-below tables n row.values fits, tables-long tables staged was load s) in
    record {
      row = added-rows staged (entered_in staged n row) was now n (L1 (length (staged_at staged n).l1)) (live_row row) s.live s.there refl (entered-changed staged n row there) (entered-free staged n row there) unknown set rows k.row;
      stages_are = ap (with_stages (entered false (placed row.id row.values)) n) k.stages_are ∙ sym (entered-stages staged n row there);
    }

length-restamped : (stamp : Stamp) (i : ℕ) (rows : List StagedRow) → length (restamped_at stamp i rows) ≡ length rows
length-restamped stamp i [] = refl
length-restamped stamp zero (row ∷ rows) = refl
length-restamped stamp (suc i) (row ∷ rows) = ap suc (length-restamped stamp i rows)

count-restamped : (stamp : Stamp) (p : Place) (s : Staged) → count_of (restamped stamp p s) ≡ count_of s
count-restamped stamp (L1 i) s = ap (λ k. k + length s.l2 + length (unwrap_or s.closed [])) (length-restamped stamp i s.l1)
count-restamped stamp (L2 i) s = ap (λ k. length s.l1 + k + length (unwrap_or s.closed [])) (length-restamped stamp i s.l2)
count-restamped stamp (Closed i) s = ap (λ k. length s.l1 + length s.l2 + k) (by s.closed)
  where
    by : (o : Option (List StagedRow)) → length (unwrap_or (option_map (restamped_at stamp i) o) []) ≡ length (unwrap_or o [])
    by None = refl
    by (Some rows) = length-restamped stamp i rows
count-restamped stamp (Main p i) s = refl

columns-restamped : (stamp : Stamp) (p : Place) (s : Staged) → (restamped stamp p s).columns ≡ s.columns
columns-restamped stamp (L1 i) s = refl
columns-restamped stamp (L2 i) s = refl
columns-restamped stamp (Closed i) s = refl
columns-restamped stamp (Main p i) s = refl

merge-restamped : (stamp : Stamp) (p : Place) (s : Staged) → (restamped stamp p s).merge ≡ s.merge
merge-restamped stamp (L1 i) s = refl
merge-restamped stamp (L2 i) s = refl
merge-restamped stamp (Closed i) s = refl
merge-restamped stamp (Main p i) s = refl

module _ (tables : List Table) (staged : List Staged) (was now : Positions) (load id n : ℕ) (p : Place) (s : IsSound tables staged was load) (known : was id ≡ Some (position n p)) (set : IsSet was now id None) where
  found : (row : StagedRow) × (place_at staged n p ≡ Some row) × (row.stamp ≡ stamp_of false) × (row.id ≡ id)
  found = s.there id n p known

  change : Changed staged (buried_in staged (position n p)) n p (record found.0 { stamp = stamp_of true })
  change = buried-changed staged n p found.0 found.1

  pub IsSound-dead : IsSound tables (buried_in staged (position n p)) now load
  IsSound-dead =
      let at = get-at staged n (place-within staged n p found.0 found.1) in
      let new = restamped (stamp_of true) p (staged_at staged n) in
      record {
        columns = map-kept (λ (x : Staged). x.columns) staged n (staged_at staged n) new at (columns-restamped (stamp_of true) p (staged_at staged n)) ∙ s.columns;
        merges = map-kept (λ (x : Staged). x.merge) staged n (staged_at staged n) new at (merge-restamped (stamp_of true) p (staged_at staged n)) ∙ s.merges;
        live = dead-live staged (buried_in staged (position n p)) was now id n p found.0 s.live s.there change found.1 found.3 known set;
        there = dead-there staged (buried_in staged (position n p)) was now id n p found.0 s.live s.there change found.1 found.3 known set;
        few = λ m. count-set staged n m new load (omega (arith, count-restamped (stamp_of true) p (staged_at staged n), s.few n)) s.few;
        within = s.within;
      }

  pub Keeps-dead : (rows : Rows) (stages : Stages) → Keeps staged was rows stages → Keeps (buried_in staged (position n p)) now (with_op rows (ops.Delete n id)) (with_stages (with_dead id) n stages)
  Keeps-dead rows stages k = record {
    row = dead-rows staged (buried_in staged (position n p)) was now id n p found.0 s.live s.there change found.1 found.3 known set rows k.row;
    stages_are = ap (with_stages (with_dead id) n) k.stages_are
        ∙ sym (buried-stages staged n id p found.0 found.1 found.3 (λ q r is lives same. (one-place staged (buried_in staged (position n p)) was now id n p found.0 s.live s.there change found.1 found.3 known set n q r is lives same).1));
  }

-- the row of an id that has a position
pub row-known : (tables : List Table) (staged : List Staged) (positions : Positions) (load id n : ℕ) (p : Place) (rows : Rows) (stages : Stages) → IsSound tables staged positions load → Keeps staged positions rows stages → positions id ≡ Some (position n p)
    → (row : Stored) × (finmap.get rows id ≡ Some row) × (row.table ≡ n)
row-known tables staged positions load id n p rows stages s k known =
    let f = s.there id n p known in
    (stored_of n f.0, k.row id ∙ ap (row_at staged) known ∙ ap (option_map (stored_of n)) f.1, refl)
