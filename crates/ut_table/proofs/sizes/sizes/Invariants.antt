use Rattle.std.proofs.Common.{◌≡◌, length, map, take}
use Rattle.ut_table.proofs.sizes.sizes.Given as goal

abbrev pub invariant-loop-p : goal.invariant-loop-p
invariant-loop-p l = l.sizes ≡ map length (take l.p l.main.parts)
