use Rattle.std.proofs.Common.{ℕ, ◌≡◌, ◌<◌, []}
use Rattle.ut_crowd.specs.Queues.{left_of}
use Rattle.ut_crowd.proofs.queues.waiting.Given as goal

abbrev pub invariant-loop-session : goal.invariant-loop-session
invariant-loop-session l = (s : ℕ) → s < l.session → left_of l.queues s ≡ []
