use Rattle.std.proofs.Common.{◌≡◌}
use Rattle.ut_dictmerge.specs.Cuts.{cut_at}
use Rattle.ut_dictmerge.specs.Pieces.{front}
use Rattle.ut_dictmerge.proofs.joining.join_keys.Given as goal

abbrev pub invariant-loop-part : goal.invariant-loop-part
invariant-loop-part l = l.keys ≡ front l.fn.a l.fn.used_a l.fn.b l.fn.used_b (cut_at l.fn.cuts l.part-index)
