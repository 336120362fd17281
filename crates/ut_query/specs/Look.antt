-- The rows that are seen where a question looks.
use Rattle.std.specs.Prelude.{ℕ, ◌≤◌, ◌≡◌, ◌^◌, List, map, length, Some, slice_get, IsTrue}
use Rattle.std.specs.List.{list_all}
use Rattle.std.specs.Ordering.{nat_cmp}
use Rattle.std.specs.FinMap.{find}
use Rattle.ut_value.specs.KeyBytes.{is_value}
use Rattle.ut_plain.specs.declared.table.Table.{Table}
use Rattle.ut_plain.specs.declared.table.Stored.{Stored}
use Rattle.ut_plain.specs.Tables.{columns_at, fits_table}
use Rattle.ut_exact.specs.Scan.{AreSeen}
use Rattle.ut_staged.specs.Staged.{Staged}
use Rattle.ut_staged.specs.Tables.{place_at}
use Rattle.ut_table.specs.Finds.{SeenOnce}
use Rattle.ut_names.specs.Resolved.{AreNarrow}
use Rattle.ut_look.specs.Look.{Sight}

-- a row has a value of the right kind for each column of its table, each under its rule
pub record KeepsRules (tables : List Table) (row : Stored) : Type 0 where
  pub fits : IsTrue (fits_table (columns_at tables row.table) row.values)
  pub values : IsTrue (list_all is_value row.values)

-- These are the rows that are seen, of all tables, by id.
pub record Sees (l : Sight) (rows : List (ℕ × Stored)) : Type 0 where
  pub seen : AreSeen (place_at l.staged) l.fates l.snapshot l.own rows
  -- the stages of each table have its columns, and show no id twice
  pub columns : map (λ (s : Staged). s.columns) l.staged ≡ map (λ (t : Table). t.columns) l.tables
  pub narrow : AreNarrow l.tables
  pub once : (n : ℕ) (s : Staged) → slice_get l.staged n ≡ Some s → SeenOnce s l.fates l.snapshot l.own
  pub keep : (id : ℕ) (row : Stored) → find nat_cmp id rows ≡ Some row → KeepsRules l.tables row
  pub few : length rows ≤ 2 ^ 31

-- some rows are seen
pub record CanLook (l : Sight) : Type 0 where
  pub rows : List (ℕ × Stored)
  pub sees : Sees l rows
