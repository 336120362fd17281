-- The codes of a column: main's, behind them those of the second stage, and those of the stage that a merge closed.
use Rattle.std.specs.Prelude.{ℕ, List, [], ◌++◌, length, map, get_or, unwrap_or}
use Rattle.ut_value.specs.declared.value.Kind.TheVariants.{Int}
use Rattle.ut_value.specs.declared.value.Column.{Column}
use Rattle.ut_value.specs.declared.value.Value.{Value}
use Rattle.ut_unsorted.specs.FirstSeen.{first_seen}
use Rattle.ut_l2.specs.KeyRows.{cells_at}
use Rattle.ut_main.specs.Parts.{MainValue}
use Rattle.ut_scan.specs.Coded.{keys_in}
use Rattle.ut_exact.specs.Places.{StagedRow}
use Rattle.ut_staged.specs.Staged.{Staged}
use Rattle.ut_table.specs.Decoded.{decoded}
use Rattle.ut_table.specs.Pending.{key_row}

-- what stands past the last column
abbrev pub no_column : Column
no_column = record { name = []; kind = Int }

-- main, as the keys of its rows
abbrev pub keyed_main : Staged → MainValue
keyed_main s = record { width = length s.columns; parts = map (map key_row) s.parts }

-- the different keys of rows in a column, as they were first seen
abbrev pub delta_keys : ℕ → List StagedRow → List (List ℕ)
delta_keys j rows = first_seen (cells_at j (map key_row rows))

-- the keys of the codes of a column
abbrev pub coded_keys : Staged → ℕ → List (List ℕ)
coded_keys s j = keys_in (keyed_main s) j ++ (delta_keys j s.l2 ++ delta_keys j (unwrap_or s.closed []))

-- the values of the codes of a column
abbrev pub coded_values : Staged → ℕ → List Value
coded_values s j = map (decoded (get_or s.columns j no_column).kind) (coded_keys s j)
