use Rattle.std.proofs.Common.{◌≡◌, ◌++◌, take}
use Rattle.std.specs.List.{flat_map}
use Rattle.ut_image.specs.Bytes.{row_bytes}
use Rattle.ut_capture.specs.Live.{live_rows}
use Rattle.ut_table.specs.Outside.{rows_in}
use Rattle.ut_capture.proofs.deltas.put_live.Given as goal

abbrev pub invariant-loop-i : goal.invariant-loop-i
invariant-loop-i l = l.out.items ≡ l.fn.out.items ++ flat_map row_bytes (live_rows l.fates l.entries (take l.i (rows_in l.stage l.table.stages)))
