use Rattle.std.proofs.Common.{take}
use Rattle.ut_plain.specs.Compiled.{Compiles}
use Rattle.ut_names.proofs.comparing.compiled.Given as goal

-- those so far stand for those that were asked for so far
abbrev pub invariant-loop-pred : goal.invariant-loop-pred
invariant-loop-pred l = Compiles l.columns (take l.pred-index l.preds) l.list.items
