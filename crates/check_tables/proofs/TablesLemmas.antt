-- A table without rows: what it shows, and what it can take.
use Rattle.std.proofs.Common.{ℕ, ◌<◌, ◌≤◌, ◌≡◌, true, List, [], ◌∷◌, length, Option, Some, refl, sym, ap, subst, arith, slice_get, nat_lt, IsTrue}
use Rattle.std.specs.List.{list_all}
use Rattle.std.proofs.lemmas.List.Elements.{All-nil}
use Rattle.ut_value.specs.declared.value.Column.{Column}
use Rattle.ut_value.specs.declared.value.Value.{Value}
use Rattle.ut_value.specs.declared.entry.Op.TheVariants.{Insert}
use Rattle.ut_plain.specs.Kinds.{bulk_fits}
use Rattle.ut_plain.specs.Made.{rows_of}
use Rattle.ut_plain.specs.Tables.{fits_columns}
use Rattle.ut_plain.proofs.BoolLemmas.{and_both, and_right}
use Rattle.ut_plain.proofs.MadeLemmas.{inserts_of-inserts}
use Rattle.ut_stamps.specs.declared.fates.Fate.{Fate}
use Rattle.ut_stamps.specs.declared.place.Place.{Place}
use Rattle.ut_stamps.specs.declared.place.Place.TheVariants.{L1, L2, Closed, Main}
use Rattle.ut_key.specs.declared.comparison.ColumnPred.{ColumnPred}
use Rattle.ut_exact.specs.Places.{StagedRow}
use Rattle.ut_staged.specs.Staged.{Staged, no_rows, row_at}
use Rattle.ut_change.specs.declared.bulk.Bulk.{Bulk}
use Rattle.ut_change.specs.Bulks.{bulk_ops}
use Rattle.ut_change.specs.Writes.{CanWrite}
use Rattle.ut_change.proofs.LoadLemmas.{ends-inserts, inserts-fit}
use Rattle.ut_tables.specs.Rows.{HasTable, Rows}
use Rattle.ut_tables.specs.Finds.{CanScan}
use Rattle.check_tables.proofs.InsertLemmas.{rows-few}

-- the first of the tables
pub first : (r : Rows) (s : Staged) (P : Staged → Type 0) → r.staged ≡ s ∷ [] → P s → HasTable r 0 P
first r s P is has = record { table = s; at = ap (λ ss. slice_get ss 0) is; has = has }

nothing_at : (columns : List Column) (p : Place) (row : StagedRow) {A : Type 0} → row_at (no_rows columns) p ≡ Some row → A
nothing_at columns (L1 i) row h = cc
nothing_at columns (L2 i) row h = cc
nothing_at columns (Closed i) row h = cc
nothing_at columns (Main part i) row h = cc

pub can_scan : (fates : List Fate) (snapshot : ℕ) (own : Option ℕ) (columns : List Column) → CanScan fates snapshot own [] (no_rows columns)
can_scan fates snapshot own columns = record {
  columns = All-nil (λ (p : ColumnPred). p.column < length columns);
  once = record { each = λ p q a b is_a is_b sees_a sees_b same. nothing_at columns p a is_a };
}

pub can_write : (columns : List Column) (values : List Value) → IsTrue (fits_columns columns values) → CanWrite (no_rows columns) [] (Insert 0 1 values ∷ [])
can_write columns values fits = record { fits = and_both (fits_columns columns values) true fits refl; few = omega arith; there = tt; enough = omega arith }

pub can_write_bulk : (columns : List Column) (b : Bulk) → 0 < b.width → b.width ≡ length columns → length b.values.now ≤ 1000 → IsTrue (bulk_fits columns b.values.now)
    → CanWrite (no_rows columns) [] (bulk_ops b)
can_write_bulk columns b some wide short h =
    let rows = rows_of b.width b.values.now in
    let fit = subst (λ w. IsTrue (list_all (fits_columns columns) (rows_of w b.values.now))) (sym wide) (and_right (nat_lt 0 (length b.values.now)) _ h) in
    let few = rows-few (length b.values.now) b.width b.values.now some in
    record {
      fits = inserts-fit columns b.table b.id rows fit;
      few = omega (arith, inserts_of-inserts b.table b.id rows, few, short);
      there = tt;
      enough = omega (arith, ends-inserts b.table b.id rows);
    }
