-- What is seen of the rows, at a length of the journal and with those of an own transaction.
use Rattle.std.specs.Prelude.{ℕ, ◌<◌, ◌≡◌, Bool, All, List, [], length, map, Option, None, Some, slice_get}
use Rattle.std.specs.Option.{option_map}
use Rattle.std.specs.List as lists
use Rattle.ut_value.specs.declared.value.Row.{Row}
use Rattle.ut_value.specs.declared.value.Value.{Value}
use Rattle.ut_plain.specs.declared.table.Stored.{Stored}
use Rattle.ut_plain.specs.Condition.{meets}
use Rattle.ut_plain.specs.Tables.{place_of}
use Rattle.ut_stamps.specs.declared.fates.Fate.{Fate}
use Rattle.ut_stamps.specs.declared.place.Place.{Place}
use Rattle.ut_stamps.specs.Stamps.{is_taken}
use Rattle.ut_key.specs.declared.comparison.ColumnPred.{ColumnPred}
use Rattle.ut_scan.specs.declared.place.Found.{Found}
use Rattle.ut_exact.specs.Scan.{IsScan, stored_in}
use Rattle.ut_staged.specs.Staged.{Staged, row_at}
use Rattle.ut_staged.specs.Tables.{place_at}
use Rattle.ut_table.specs.Finds.{SeenOnce, hits_of}
use Rattle.ut_change.specs.Conflicts.{stamp_in}
use Rattle.ut_look.specs.Look.{Sight}
use Rattle.ut_tables.specs.Rows.{HasTable, Rows}

-- all that a question looks at
abbrev pub sight_of : Rows → ℕ → Option ℕ → Sight
sight_of r snapshot own = record { tables = r.tables; staged = r.staged; fates = r.fates; snapshot = snapshot; own = own }

-- A table can be scanned: each comparison is of one of its columns, and no row is seen twice.
pub record CanScan (fates : List Fate) (snapshot : ℕ) (own : Option ℕ) (preds : List ColumnPred) (s : Staged) : Type 0 where
  pub columns : All (λ (p : ColumnPred). p.column < length s.columns) preds
  pub once : SeenOnce s fates snapshot own

-- the table of a name, if there is one, can be scanned for all its rows
abbrev pub CanList : Rows → ℕ → Option ℕ → List ℕ → Type 0
CanList r snapshot own name = (n : ℕ) → place_of r.tables name ≡ Some n → HasTable r n (CanScan r.fates snapshot own [])

-- by ascending id, the places of the table at place n whose rows are seen and pass a test
pub record Hits (r : Rows) (snapshot : ℕ) (own : Option ℕ) (n : ℕ) (test : List Value → Bool) (hits : List (ℕ × Place)) : Type 0 where
  pub scan : IsScan (place_at r.staged) n r.fates snapshot own test hits

-- the rows in places, as the plain store has them
abbrev pub plain_rows : Rows → ℕ → List (ℕ × Place) → List (ℕ × Stored)
plain_rows r n hits = map (λ (x : ℕ × Place). (x.0, stored_in n (place_at r.staged n x.1))) hits

-- the first of these rows that another transaction ended behind the look, or is about to
abbrev pub first_taken_of : Rows → ℕ → Option ℕ → ℕ → List (ℕ × Place) → Option ℕ
first_taken_of r snapshot own n hits =
    option_map (λ (x : ℕ × Place). x.0)
    (lists.find (λ (x : ℕ × Place). is_taken r.fates snapshot own (stamp_in (place_at r.staged n x.1))) hits)

-- a row under its id
abbrev pub row_of : ℕ × Stored → Row
row_of e = record { id = e.0; values = e.1.values }

-- the row that was found in a place
abbrev pub row_in : Staged → Found → Row
row_in s found = row_of (found.id, stored_in 0 (row_at s found.place))

-- these are the rows of the table of a name that are seen, by ascending id
pub record IsListed (r : Rows) (snapshot : ℕ) (own : Option ℕ) (name : List ℕ) (rows : List Row) : Type 0 where
  pub place : ℕ
  pub named : place_of r.tables name ≡ Some place
  pub table : Staged
  pub at : slice_get r.staged place ≡ Some table
  pub found : List Found
  pub hits : Hits r snapshot own place (meets table.columns []) (hits_of found)
  pub rows_are : rows ≡ map (row_in table) found

-- the same, or nothing where there is no such table
abbrev pub ListsSeen : Rows → ℕ → Option ℕ → List ℕ → Option (List Row) → Type 0
ListsSeen r snapshot own name None = place_of r.tables name ≡ None
ListsSeen r snapshot own name (Some rows) = IsListed r snapshot own name rows
