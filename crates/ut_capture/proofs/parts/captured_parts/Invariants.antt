use Rattle.std.proofs.Common.{◌≡◌, [], length, take}
use Rattle.std.specs.Prelude.{vec_len}
use Rattle.ut_savepoint.specs.Captured.{CaptureParts}
use Rattle.ut_capture.specs.Live.{live_parts}
use Rattle.ut_capture.proofs.parts.captured_parts.Given as goal

abbrev pub invariant-loop-p : goal.invariant-loop-p
invariant-loop-p l = (vec_len l.parts ≡ l.p) × CaptureParts (length l.table.stages.columns) [] l.parts.items (live_parts l.fates l.entries (take l.p l.table.stages.parts))
