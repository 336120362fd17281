use Rattle.std.proofs.Common.{◌≡◌, ◌++◌, take}
use Rattle.ut_bits.specs.Places.{places_where, is_in}
use Rattle.ut_packed.proofs.packed.places_among.Given as goal

abbrev pub invariant-loop-i : goal.invariant-loop-i
invariant-loop-i l = l.out.items ≡ l.initial.out.items ++ places_where (is_in l.ranges) (take l.i l.list.codes)
