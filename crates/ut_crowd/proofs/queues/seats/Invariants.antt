use Rattle.std.proofs.Common.{ℕ, ◌≡◌, [], length}
use Rattle.ut_crowd.specs.Queues.{left_of}
use Rattle.ut_crowd.proofs.queues.seats.Given as goal

abbrev pub invariant-loop-seat : goal.invariant-loop-seat
invariant-loop-seat l = (length l.queues.items ≡ l.seat) × ((s : ℕ) → left_of l.queues.items s ≡ [])
