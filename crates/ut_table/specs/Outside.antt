-- The stages that aren't main, and their places.
use Rattle.std.specs.Prelude.{ℕ, List, []}
use Rattle.std.specs.Option.{unwrap_or}
use Rattle.ut_stamps.specs.declared.place.Place.{Place}
use Rattle.ut_stamps.specs.declared.place.Place.TheVariants as places
use Rattle.ut_exact.specs.Places.{StagedRow}
use Rattle.ut_staged.specs.Staged.{Staged}
use Rattle.ut_table.specs.declared.stage.Stage.{Stage}
use Rattle.ut_table.specs.declared.stage.Stage.TheVariants.{L1, L2, Closed}

-- the rows of a stage
abbrev pub rows_in : Stage → Staged → List StagedRow
rows_in L1 s = s.l1
rows_in L2 s = s.l2
rows_in Closed s = unwrap_or s.closed []

-- a place of a stage
abbrev pub place_in : Stage → ℕ → Place
place_in L1 i = places.L1 i
place_in L2 i = places.L2 i
place_in Closed i = places.Closed i
