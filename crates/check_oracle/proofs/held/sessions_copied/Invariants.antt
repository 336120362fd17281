use Rattle.std.proofs.Common.{◌≡◌, take}
use Rattle.check_oracle.proofs.held.sessions_copied.Given as goal

abbrev pub invariant-loop-transaction : goal.invariant-loop-transaction
invariant-loop-transaction l = l.copies.items ≡ take l.transaction-index l.sessions
