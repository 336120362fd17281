use Rattle.std.proofs.Common.{◌≡◌, map, length, take}
use Rattle.check_stages.proofs.shape.lengths.Given as goal

abbrev pub invariant-loop-part : goal.invariant-loop-part
invariant-loop-part l = l.lengths ≡ map length (take l.part-index l.parts)
