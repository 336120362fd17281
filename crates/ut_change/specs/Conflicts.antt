-- Which of the rows that were found another transaction took.
use Rattle.std.specs.Prelude.{ℕ, List, Option, None, Some}
use Rattle.std.specs.Option.{option_map}
use Rattle.std.specs.List as lists
use Rattle.ut_stamps.specs.declared.fates.Fate.{Fate}
use Rattle.ut_stamps.specs.declared.visibility.Stamp.{Stamp}
use Rattle.ut_stamps.specs.declared.place.Place.{Place}
use Rattle.ut_stamps.specs.Stamps.{is_taken}
use Rattle.ut_exact.specs.Places.{StagedRow}
use Rattle.ut_staged.specs.Staged.{Staged, row_at}

-- the stamp of the row in a place
abbrev pub stamp_in : Option StagedRow → Stamp
stamp_in None = record { begin = 0; end = None }
stamp_in (Some row) = row.stamp

-- the first of these rows of a table that is taken
abbrev pub first_taken_in : Staged → List Fate → ℕ → Option ℕ → List (ℕ × Place) → Option ℕ
first_taken_in s fates snapshot own hits =
    option_map (λ (x : ℕ × Place). x.0) (lists.find (λ (x : ℕ × Place). is_taken fates snapshot own (stamp_in (row_at s x.1))) hits)
