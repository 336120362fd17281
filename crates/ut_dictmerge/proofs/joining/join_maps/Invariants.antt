use Rattle.ut_dictmerge.specs.Cuts.{cut_at}
use Rattle.ut_dictmerge.proofs.JoinLemmas.{AreJoined}
use Rattle.ut_dictmerge.proofs.joining.join_maps.Given as goal

abbrev pub invariant-loop-part : goal.invariant-loop-part
invariant-loop-part l = AreJoined l.fn.a l.fn.used_a l.fn.b l.fn.used_b (cut_at l.fn.cuts l.part-index) l.from_a.items l.from_b.items
