use Rattle.std.proofs.Common.{◌≡◌, take, true}
use Rattle.ut_l2.specs.KeyRows.{keyed}
use Rattle.ut_scan.specs.Finds.{passes}
use Rattle.ut_scan.proofs.rows.row_passes.Given as goal

abbrev pub invariant-loop-pred : goal.invariant-loop-pred
invariant-loop-pred l = passes (take l.pred-index l.preds) (keyed l.row) ≡ true
