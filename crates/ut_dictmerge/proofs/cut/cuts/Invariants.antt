use Rattle.std.proofs.Common.{◌≡◌, ℕ, ◌<◌, ◌+◌, ◌*◌, ◌/◌, length}
use Rattle.ut_dictmerge.specs.Cuts.{IsCutBehind, cut_at}
use Rattle.ut_dictmerge.proofs.cut.cuts.Given as goal

abbrev pub invariant-loop-k : goal.invariant-loop-k
invariant-loop-k l =
    (length l.cuts.items ≡ l.k)
    × ((k : ℕ) → k < l.k → IsCutBehind l.a l.b (k * (length l.a + length l.b) / l.pieces) (cut_at l.cuts.items k).a (cut_at l.cuts.items k).b)
