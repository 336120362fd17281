use Rattle.std.proofs.Common.{◌≡◌, ◌++◌, take}
use Rattle.ut_packed.proofs.packed.Packed.codes_of.Given as goal

abbrev pub invariant-loop-i : goal.invariant-loop-i
invariant-loop-i l = l.out.items ≡ l.initial.out.items ++ take l.i l.self-inside.list.codes
