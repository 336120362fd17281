use Rattle.std.proofs.Common.{◌≡◌, take}
use Rattle.ut_names.proofs.copying.preds_copy.Given as goal

-- the copies so far are those of the comparisons so far
abbrev pub invariant-loop-pred : goal.invariant-loop-pred
invariant-loop-pred l = l.copies ≡ take l.pred-index l.pred-items
