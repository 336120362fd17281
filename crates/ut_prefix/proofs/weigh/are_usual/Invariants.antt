use Rattle.std.proofs.Common.{◌≡◌, ◌<◌, IsTrue, false, length, take, All}
use Rattle.ut_prefix.proofs.weigh.are_usual.Given as goal

abbrev pub invariant-loop-weight : goal.invariant-loop-weight
invariant-loop-weight l = (IsTrue l.are → All (λ w. w ≡ l.usual) (take l.weight-index l.weights)) × (l.are ≡ false → 0 < length l.weights)
