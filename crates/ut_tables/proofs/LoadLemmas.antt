-- A bulk that is loaded: its rows stand flat, they fit the table, and there are places for them.
use Rattle.std.proofs.Common.{ℕ, zero, suc, ◌+◌, ◌<◌, ◌≤◌, ◌≡◌, All, IsTrue, List, [], ◌∷◌, ◌++◌, ◌^◌, length, map, take, drop, refl, sym, ap, subst, ◌∙◌, arith, length-drop}
use Rattle.std.specs.List.{flat_map, range_with_len}
use Rattle.std.proofs.lemmas.List.{take-append-drop}
use Rattle.ut_value.specs.declared.value.Row.{Row}
use Rattle.ut_value.specs.declared.value.Value.{Value}
use Rattle.ut_plain.specs.Made.{cut, rows_of}
use Rattle.ut_plain.specs.Tables.{fits_columns}
use Rattle.ut_plain.proofs.MadeLemmas.{inserts_of-inserts}
use Rattle.ut_plain.proofs.TableLemmas.{fits_columns-length}
use Rattle.ut_stamps.specs.declared.place.Place.{Place}
use Rattle.ut_l2.specs.Sources.{AreFlat}
use Rattle.ut_staged.specs.Staged.{Staged, count_of}
use Rattle.ut_change.specs.declared.bulk.Bulk.{Bulk}
use Rattle.ut_change.specs.Bulks.{bulk_ops, bulk_rows, CanLoad}
use Rattle.ut_change.specs.Loads.{numbered}
use Rattle.ut_change.specs.Writes.{CanWrite}
use Rattle.ut_change.proofs.LoadLemmas.{length-numbered, numbered-fit}
use Rattle.ut_tables.specs.Changed.{CanTake}
use Rattle.ut_tables.specs.Rows.{HasTable, Rows}
use Rattle.ut_tables.specs.Works.{IsWide}
use Rattle.ut_tables.proofs.IndexLemmas.{some_inside}

-- ---- the rows stand flat

ids-numbered : (id : ℕ) (rows : List (List Value)) → map (λ (r : Row). r.id) (numbered id rows) ≡ range_with_len id (length (numbered id rows))
ids-numbered id [] = refl
ids-numbered id (vs ∷ rows) = ap (λ ns. id ∷ ns) (ids-numbered (id + 1) rows)

flat-cut : (n width id : ℕ) (vs : List Value) → 0 < width → length vs ≤ n → flat_map (λ (r : Row). r.values) (numbered id (cut n width vs)) ≡ vs
flat-cut zero width id [] w h = refl
flat-cut zero width id (v ∷ vs) w h = absurd (omega (arith, h))
flat-cut (suc n) width id [] w h = refl
flat-cut (suc n) width id (v ∷ vs) w h =
    let less = length-drop width (v ∷ vs) in
    ap (λ xs. take width (v ∷ vs) ++ xs) (flat-cut n width (id + 1) (drop width (v ∷ vs)) w (omega (arith, less, w, h)))
    ∙ take-append-drop width (v ∷ vs)

-- A bulk that the table read at a place can take, with its rows as wide as that table.
module _ (b : Bulk) (s read : Staged) (here : read ≡ s) (can : CanLoad b) (takes : CanTake b s) where
  abbrev rows_read : List Row
  rows_read = numbered b.id (rows_of (length read.columns) b.values.now)

  wide_read : length read.columns ≡ b.width
  wide_read = ap (λ (t : Staged). length t.columns) here ∙ sym takes.wide

  pub rows_are : numbered b.id (rows_of (length read.columns) b.values.now) ≡ bulk_rows b
  rows_are = ap (λ w. numbered b.id (rows_of w b.values.now)) wide_read

  pub are_flat : AreFlat (numbered b.id (rows_of (length read.columns) b.values.now)) b.id (length read.columns) b.values.now
  are_flat = subst (λ w. AreFlat (numbered b.id (rows_of w b.values.now)) b.id w b.values.now) (sym wide_read) (record {
    ids = ids-numbered b.id (rows_of b.width b.values.now);
    wide = λ k d lt. fits_columns-length s.columns _ (takes.fit k d lt) ∙ sym takes.wide;
    flat = flat-cut (length b.values.now) b.width b.id b.values.now can.width (omega arith);
  })

  pub columns_there : 0 < length read.columns
  columns_there = let width = can.width in omega (arith, wide_read, width)

  pub all_fit : All (λ (r : Row). IsTrue (fits_columns read.columns r.values)) (numbered b.id (rows_of (length read.columns) b.values.now))
  all_fit =
      subst (λ (t : Staged). All (λ (r : Row). IsTrue (fits_columns t.columns r.values)) rows_read) (sym here)
      (subst (λ (rs : List Row). All (λ (r : Row). IsTrue (fits_columns s.columns r.values)) rs) (sym rows_are) takes.fit)

  pub ids_there : b.id + length (numbered b.id (rows_of (length read.columns) b.values.now)) ≤ 2 ^ 32
  ids_there = let ids = can.ids in omega (arith, ids, ap (λ (rs : List Row). length rs) rows_are, length-numbered b.id (rows_of b.width b.values.now))

  pub few_there : count_of read + length (numbered b.id (rows_of (length read.columns) b.values.now)) ≤ 2 ^ 31
  few_there = let few = takes.few in omega (arith, few, ap (λ (rs : List Row). length rs) rows_are, ap count_of here)

-- ---- the table can take them

pub can_take : (s : Staged) (hits : List (ℕ × Place)) (b : Bulk) → CanWrite s hits (bulk_ops b) → b.width ≡ length s.columns → CanTake b s
can_take s hits b c wide =
    let news = rows_of b.width b.values.now in
    record {
      wide = wide;
      fit = numbered-fit s.columns b.table b.id news c.fits;
      few = let few = c.few in omega (arith, few, inserts_of-inserts b.table b.id news, length-numbered b.id news);
    }

pub can_take_there : (r : Rows) (n : ℕ) (hits : List (ℕ × Place)) (b : Bulk) → HasTable r n (λ s. CanWrite s hits (bulk_ops b)) → IsWide r n b → HasTable r n (CanTake b)
can_take_there r n hits b c w = record {
  table = c.table;
  at = c.at;
  has = can_take c.table hits b c.has (w.has ∙ ap (λ (s : Staged). length s.columns) (some_inside w.table c.table (sym w.at ∙ c.at)));
}
