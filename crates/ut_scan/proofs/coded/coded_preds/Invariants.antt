use Rattle.std.proofs.Common.{◌+◌, ◌≤◌, take}
use Rattle.ut_scan.specs.Coded.{AreCoded}
use Rattle.ut_scan.specs.StageRows.{scan_steps}
use Rattle.ut_scan.proofs.coded.coded_preds.Given as goal

abbrev pub invariant-loop-pred : goal.invariant-loop-pred
invariant-loop-pred g l = record {
  cost : l.steps ≤ l.fn.steps + scan_steps l.main (take l.pred-index l.preds);
  coded : AreCoded l.main (take l.pred-index l.preds) l.coded.items;
}
