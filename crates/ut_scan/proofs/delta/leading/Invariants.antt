use Rattle.std.proofs.Common.{◌<◌, length}
use Rattle.ut_scan.proofs.delta.leading.Given as goal

abbrev pub invariant-loop-k : goal.invariant-loop-k
invariant-loop-k l = l.best < length l.preds
