use Rattle.std.proofs.Common.{◌≡◌, map, take}
use Rattle.ut_key.specs.Keys.{meets}
use Rattle.ut_scan.proofs.delta.marks.Given as goal

abbrev pub invariant-loop-code : goal.invariant-loop-code
invariant-loop-code l = l.marks.items ≡ map (meets l.pred.op l.pred.key) (take l.code l.dict)
