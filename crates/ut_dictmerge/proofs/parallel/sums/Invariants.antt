use Rattle.std.proofs.Common.{◌≡◌, ℕ, ◌<◌, take, length, get_or}
use Rattle.ut_dictmerge.specs.Pieces.{total}
use Rattle.ut_dictmerge.proofs.parallel.sums.Given as goal

abbrev pub invariant-loop-count : goal.invariant-loop-count
invariant-loop-count l =
    (length l.all.items ≡ l.count-index) × (l.sum ≡ total (take l.count-index l.counts))
    × ((k : ℕ) → k < l.count-index → get_or l.all.items k 0 ≡ total (take k l.counts))
