-- What a scan of a table finds, the rows of main by their codes in a column.
use Rattle.std.specs.Prelude.{ℕ, ◌≡◌, List, ◌++◌, map, get_or, slice_get, Option}
use Rattle.std.specs.Option.{option_map, option_and_then}
use Rattle.std.specs.List.Sorted.{IsPermutation}
use Rattle.ut_value.specs.declared.value.Value.{Value}
use Rattle.ut_value.specs.KeyBytes.{key_of}
use Rattle.ut_plain.specs.declared.statement.Pred.{Pred}
use Rattle.ut_stamps.specs.declared.fates.Fate.{Fate}
use Rattle.ut_scan.specs.declared.place.Found.{Found}
use Rattle.ut_scan.specs.Coded.{keys_in}
use Rattle.ut_scan.specs.Tallies.{how_often}
use Rattle.ut_exact.specs.Places.{StagedRow}
use Rattle.ut_staged.specs.Staged.{Staged, row_at}
use Rattle.ut_table.specs.Coded.{keyed_main}
use Rattle.ut_table.specs.Finds.{Finds}

-- the value in a column of a row that was found
abbrev pub value_at : Staged → ℕ → Found → Option Value
value_at s column f = option_and_then (λ (row : StagedRow). slice_get row.values column) (row_at s f.place)

-- of rows that were found those outside of main, and how often each of main's codes in a column occurs among the others
pub record IsTally (s : Staged) (column : ℕ) (found : List Found) (counts : List ℕ) (rest : List Found) : Type 0 where
  pub in_main : List Found
  pub all : IsPermutation (rest ++ in_main) found
  -- the codes of those in main
  pub codes : List ℕ
  pub keys : map (slice_get (keys_in (keyed_main s) column)) codes ≡ map (λ f. option_map key_of (value_at s column f)) in_main
  pub each : (code : ℕ) → get_or counts code 0 ≡ how_often codes code

-- the same of what a scan finds
pub record Tallied (s : Staged) (fates : List Fate) (snapshot : ℕ) (own : Option ℕ) (preds : List Pred) (column : ℕ) (counts : List ℕ) (rest : List Found) : Type 0 where
  pub found : List Found
  pub finds : Finds s fates snapshot own preds found
  pub tally : IsTally s column found counts rest
