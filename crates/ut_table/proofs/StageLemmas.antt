-- The stamps of a stage's rows, the row in a place with its id, and that it fits the columns.
use Rattle.std.proofs.Common.{◌≡◌, ℕ, ◌<◌, ◌≤◌, ◌^◌, List, [], ◌∷◌, length, map, drop, get_or, Option, None, Some, IsTrue, unwrap_or, refl, sym, ◌∙◌, ap, subst, arith}
use Rattle.std.specs.Prelude.{slice_get, IsSome}
use Rattle.std.specs.List.{list_all}
use Rattle.std.specs.Option.{option_map}
use Rattle.std.proofs.lemmas.List.{get_or-map}
use Rattle.std.proofs.lemmas.Option.{same_Some}
use Rattle.ut_value.specs.declared.value.Value.{Value}
use Rattle.ut_value.specs.declared.value.Row.{Row}
use Rattle.ut_value.specs.declared.value.Column.{Column}
use Rattle.ut_value.specs.KeyBytes.{is_value}
use Rattle.ut_plain.specs.Tables.{fits_columns}
use Rattle.ut_stamps.specs.declared.visibility.Stamp.{Stamp}
use Rattle.ut_stamps.specs.declared.place.Place.{Place}
use Rattle.ut_stamps.specs.declared.place.Place.TheVariants as places
use Rattle.ut_stamps.specs.StampLists.{StampLists}
use Rattle.ut_exact.specs.Places.{StagedRow}
use Rattle.ut_l2.specs.KeyRows.{KeyRow, keyed, no_row}
use Rattle.ut_l2.specs.Delta.{Delta}
use Rattle.ut_main.specs.Parts.{MainValue, PartValue, dicts_behind, first_parts}
use Rattle.ut_scan.specs.declared.stages.Stages.{Stages}
use Rattle.ut_staged.specs.Staged.{Staged, row_at, row_in, count_of}
use Rattle.ut_table.specs.Contents.{Contents, PendingValue, closed_rows, stamped_rows, decoded_rows, held, held_parts}
use Rattle.ut_table.specs.Decoded.{decoded_keys}
use Rattle.ut_table.specs.Filled.{row_of}
use Rattle.ut_table.specs.Kept.{IsRow}
use Rattle.ut_table.specs.Lent.{AreLent}
use Rattle.ut_table.specs.Outside.{rows_in, place_in}
use Rattle.ut_table.specs.declared.stage.Stage.{Stage}
use Rattle.ut_table.specs.declared.stage.Stage.TheVariants.{L1, L2, Closed}
use Rattle.ut_table.proofs.PlaceLemmas.{key_row_at, is-read, closed-lengths}
use Rattle.ut_table.proofs.ReadLemmas.{few-staged, l1-within, l2-row, closed-row, part-row, part-within, holds-row, held-values}
use Rattle.ut_table.proofs.StampedLemmas.{decoded-length}

-- ---- stamps

abbrev pub stamp_of : StagedRow → Stamp
stamp_of row = row.stamp

pub stamps-of : (rows : List Row) (stamps : List Stamp) → length stamps ≡ length rows → map stamp_of (stamped_rows rows stamps) ≡ stamps
stamps-of [] [] same = refl
stamps-of [] (s ∷ ss) same = absurd (omega (arith, same))
stamps-of (r ∷ rs) [] same = absurd (omega (arith, same))
stamps-of (r ∷ rs) (s ∷ ss) same = ap (λ l. s ∷ l) (stamps-of rs ss (omega (arith, same)))

pub held-stamps : (columns : List Column) (rows : List KeyRow) (stamps : List Stamp) → length stamps ≡ length rows → map stamp_of (held columns rows stamps) ≡ stamps
held-stamps columns rows stamps same = stamps-of (decoded_rows columns rows) stamps (decoded-length columns rows stamps same)

parts-stamps : (columns : List Column) (parts : List (List KeyRow)) (stamps : List (List Stamp)) → map length stamps ≡ map length parts → map (map stamp_of) (held_parts columns parts stamps) ≡ stamps
parts-stamps columns [] [] same = refl
parts-stamps columns [] (s ∷ ss) same = absurd (omega (arith, ap length same))
parts-stamps columns (r ∷ rs) [] same = absurd (omega (arith, ap length same))
parts-stamps columns (r ∷ rs) (s ∷ ss) same = λ i. held-stamps columns r s (ap (λ (l : List ℕ). get_or l 0 0) same) i ∷ parts-stamps columns rs ss (ap (drop 1) same) i

-- the closed stage of a pending merge, whatever stands for it else
pub closed-of : {A : Type 0} (f : A → Delta) (o : Option A) (x : A) (pending : Option PendingValue) (q : PendingValue) → option_map f o ≡ option_map (λ (p : PendingValue). p.closed) pending → pending ≡ Some q
    → f (unwrap_or o x) ≡ q.closed
closed-of f None x pending q same is = absurd (none_some (same ∙ ap (option_map (λ (p : PendingValue). p.closed)) is))
  where
    none_some : None ≡ Some q.closed → ⊥
    none_some e = cc
closed-of f (Some y) x pending q same is = same_Some (f y) q.closed (same ∙ ap (option_map (λ (p : PendingValue). p.closed)) is)

module _ {s : Staged} {stages : Stages} (a : AreLent s stages) where
  abbrev t : Contents
  t = a.table

  pub few : count_of s ≤ 2 ^ 31
  few = few-staged a.kept a.view

  pub l1-stamps : (stage : Stage) (list : List Stamp) → stage ≡ L1 → list ≡ stages.stamps.now.l1.items → list ≡ map stamp_of (rows_in stage s)
  l1-stamps stage list same is =
      is ∙ ap (λ (x : StampLists). x.l1.items) a.stamps ∙ sym (stamps-of t.l1 t.stamps.l1.items a.kept.stamped.l1)
      ∙ ap (λ (x : Staged). map stamp_of x.l1) a.view ∙ ap (λ (k : Stage). map stamp_of (rows_in k s)) (sym same)

  pub l2-stamps : (stage : Stage) (list : List Stamp) → stage ≡ L2 → list ≡ stages.stamps.now.l2.items → list ≡ map stamp_of (rows_in stage s)
  l2-stamps stage list same is =
      is ∙ ap (λ (x : StampLists). x.l2.items) a.stamps ∙ sym (held-stamps t.columns t.l2.rows t.stamps.l2.items a.kept.stamped.l2)
      ∙ ap (λ (x : Staged). map stamp_of x.l2) a.view ∙ ap (λ (k : Stage). map stamp_of (rows_in k s)) (sym same)

  of_closed : unwrap_or t.stamps.closed [] ≡ map stamp_of (unwrap_or s.closed [])
  of_closed = by t.pending (closed-lengths a.kept) ∙ ap (λ (x : Staged). map stamp_of (unwrap_or x.closed [])) a.view
    where
      by : (q : Option PendingValue) → length (unwrap_or t.stamps.closed []) ≡ length (closed_rows q)
          → unwrap_or t.stamps.closed [] ≡ map stamp_of (unwrap_or (option_map (λ (p : PendingValue). held t.columns p.closed.rows (unwrap_or t.stamps.closed [])) q) [])
      by None same = none (unwrap_or t.stamps.closed []) same
        where
          none : (l : List Stamp) → length l ≡ 0 → l ≡ []
          none [] e = refl
          none (x ∷ xs) e = absurd (omega (arith, e))
      by (Some p) same = sym (held-stamps t.columns p.closed.rows (unwrap_or t.stamps.closed []) same)

  pub closed-stamps : (stage : Stage) (list : List Stamp) → stage ≡ Closed → unwrap_or stages.stamps.now.closed [] ≡ list → list ≡ map stamp_of (rows_in stage s)
  closed-stamps stage list same is =
      sym is ∙ ap (λ (x : StampLists). unwrap_or x.closed []) a.stamps ∙ of_closed ∙ ap (λ (k : Stage). map stamp_of (rows_in k s)) (sym same)

  pub part-lists : map (map stamp_of) s.parts ≡ stages.stamps.now.parts
  part-lists = ap (λ (x : Staged). map (map stamp_of) x.parts) (sym a.view) ∙ parts-stamps t.columns t.main.parts t.stamps.parts a.kept.stamped.parts ∙ ap (λ (x : StampLists). x.parts) (sym a.stamps)

  -- ---- rows

  id-at : (p q : Place) (row : StagedRow) → p ≡ q → row_at s p ≡ Some row → (key_row_at t q).id ≡ row.id
  id-at p q row same at = ap (λ (r : StagedRow). r.id) (sym (is-read a.kept q row (ap (λ (x : Staged). row_at x q) a.view ∙ ap (row_at s) (sym same) ∙ at)))

  -- the row in a place fits the table
  pub row-fits : (p : Place) (row : StagedRow) → row_at s p ≡ Some row → IsRow s.columns (row_of row)
  row-fits p row at =
      let there : IsSome (row_at s p) = subst IsSome (sym at) refl in
      let held = holds-row a.kept a.view p p (length t.columns) refl refl there in
      let same : decoded_keys s.columns (key_row_at t p).keys ≡ row.values = held-values a.kept a.view p p row refl at in
      record {
        fits = subst (λ (vs : List Value). IsTrue (fits_columns s.columns vs)) same held.held.fit.fits;
        kept = subst (λ (vs : List Value). IsTrue (list_all is_value vs)) same held.held.fit.kept;
      }

  pub l1-there : (p : Place) (i : ℕ) → p ≡ places.L1 i → IsSome (row_at s p) → i < length stages.l1.now.items
  l1-there p i same some = subst (λ (l : List Row). i < length l) (sym a.l1) (l1-within a.kept a.view p i same some)

  pub l1-id : (p : Place) (i : ℕ) (r : Row) → p ≡ places.L1 i → r ≡ get_or stages.l1.now.items i r → (row : StagedRow) → row_at s p ≡ Some row → r.id ≡ row.id
  l1-id p i r same is row at =
      let lt = l1-within a.kept a.view p i same (subst IsSome (sym at) refl) in
      let key : get_or (map keyed t.l1) i no_row ≡ keyed r = get_or-map keyed t.l1 i r no_row lt ∙ ap keyed (sym (is ∙ ap (λ (l : List Row). get_or l i r) a.l1)) in
      ap (λ (k : KeyRow). k.id) (sym key) ∙ id-at p (places.L1 i) row same at

  pub l2-there : (p : Place) (i : ℕ) → p ≡ places.L2 i → IsSome (row_at s p) → i < length stages.l2.now.rows
  l2-there p i same some = (l2-row a.kept a.view p i stages.l2.now same a.l2 some).place

  pub l2-id : (p : Place) (i id : ℕ) → p ≡ places.L2 i → id ≡ (get_or stages.l2.now.rows i no_row).id → (row : StagedRow) → row_at s p ≡ Some row → id ≡ row.id
  l2-id p i id same is row at = is ∙ ap (λ (d : Delta). (get_or d.rows i no_row).id) a.l2 ∙ id-at p (places.L2 i) row same at

  pub closed-there : (p : Place) (i : ℕ) (q : PendingValue) (d : Delta) → p ≡ places.Closed i → t.pending ≡ Some q → d ≡ q.closed → IsSome (row_at s p) → i < length d.rows
  closed-there p i q d same is d_is some = (closed-row a.kept a.view p i q d same is d_is some).place

  pub closed-id : (p : Place) (i id : ℕ) (q : PendingValue) (d : Delta) → p ≡ places.Closed i → t.pending ≡ Some q → d ≡ q.closed → id ≡ (get_or d.rows i no_row).id → (row : StagedRow) → row_at s p ≡ Some row → id ≡ row.id
  closed-id p i id q d same is d_is id_is row at =
      id_is ∙ ap (λ (x : Delta). (get_or x.rows i no_row).id) d_is ∙ ap (λ (o : Option PendingValue). (get_or (closed_rows o) i no_row).id) (sym is) ∙ id-at p (places.Closed i) row same at

  pub main-there : (p : Place) (n i : ℕ) → p ≡ places.Main n i → IsSome (row_at s p) → n < length stages.main.now.parts
  main-there p n i same some = subst (λ (m : MainValue). n < length m.parts) (sym a.main) (part-within a.kept a.view p n i same some)

  pub part-there : (p : Place) (n i : ℕ) (part : PartValue) → p ≡ places.Main n i → part.rows ≡ get_or stages.main.now.parts n [] → part.before ≡ dicts_behind (first_parts n stages.main.now) → IsSome (row_at s p) → i < length part.rows
  part-there p n i part same rows before some =
      (part-row a.kept a.view p n i part same (rows ∙ ap (λ (m : MainValue). get_or m.parts n []) a.main) (before ∙ ap (λ (m : MainValue). dicts_behind (first_parts n m)) a.main) some).place

  pub part-id : (p : Place) (n i id : ℕ) (part : PartValue) → p ≡ places.Main n i → part.rows ≡ get_or stages.main.now.parts n [] → id ≡ (get_or part.rows i no_row).id → (row : StagedRow) → row_at s p ≡ Some row → id ≡ row.id
  part-id p n i id part same rows is row at =
      is ∙ ap (λ (l : List KeyRow). (get_or l i no_row).id) (rows ∙ ap (λ (m : MainValue). get_or m.parts n []) a.main) ∙ id-at p (places.Main n i) row same at

-- ---- rows of a stage

-- a place of a stage has the row that stands there
pub in-stage : (stage : Stage) (s : Staged) (i : ℕ) → row_at s (place_in stage i) ≡ slice_get (rows_in stage s) i
in-stage L1 s i = refl
in-stage L2 s i = refl
in-stage Closed s i = by s.closed
  where
    by : (o : Option (List StagedRow)) → row_in o i ≡ slice_get (unwrap_or o []) i
    by None = refl
    by (Some list) = refl
