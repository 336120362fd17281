-- The bytes of the live rows outside main.
use Rattle.std.specs.Prelude.{ℕ, List, ◌++◌}
use Rattle.ut_stamps.specs.declared.fates.Fate.{Fate}
use Rattle.ut_staged.specs.Staged.{Staged}
use Rattle.ut_image.specs.Bytes.{rows_bytes}
use Rattle.ut_table.specs.Outside.{rows_in}
use Rattle.ut_table.specs.declared.stage.Stage.TheVariants.{L1, L2, Closed}
use Rattle.ut_capture.specs.Live.{live_rows}

-- the live rows outside main, those of the second stage behind those of a closed one, as a directory spells them
abbrev pub deltas_bytes : List Fate → ℕ → Staged → List ℕ
deltas_bytes fates entries s =
    rows_bytes (live_rows fates entries (rows_in Closed s) ++ live_rows fates entries (rows_in L2 s))
    ++ rows_bytes (live_rows fates entries (rows_in L1 s))
