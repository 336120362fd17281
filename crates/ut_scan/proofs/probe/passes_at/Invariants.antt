use Rattle.std.proofs.Common.{◌≡◌, take, get_or, true}
use Rattle.ut_l2.specs.KeyRows.{no_row}
use Rattle.ut_scan.specs.Finds.{passes}
use Rattle.ut_scan.proofs.probe.passes_at.Given as goal

abbrev pub invariant-loop-pred : goal.invariant-loop-pred
invariant-loop-pred l = passes (take l.pred-index l.preds) (get_or l.l2.rows l.i no_row) ≡ true
