use Rattle.std.proofs.Common.{◌≡◌, map}
use Rattle.std.specs.List.{range_with_len}
use Rattle.ut_image.specs.Steps.{bit_in}
use Rattle.ut_image.proofs.marks.marks_in.Given as goal

abbrev pub invariant-loop-i : goal.invariant-loop-i
invariant-loop-i l = l.marks.items ≡ map (bit_in l.bytes) (range_with_len 0 l.i)
