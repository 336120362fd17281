use Rattle.std.proofs.Common.{map, take}
use Rattle.ut_savepoint.specs.Captured.{CaptureTables}
use Rattle.ut_table.specs.Contents.{TableValue}
use Rattle.ut_capture.specs.Live.{live_stages}
use Rattle.ut_capture.proofs.store.captured.Given as goal

abbrev pub invariant-loop-n : goal.invariant-loop-n
invariant-loop-n l = CaptureTables l.captured.items (take l.n l.tables) (map (live_stages l.fates l.entries) (take l.n (map (λ (t : TableValue). t.stages) l.stages)))
