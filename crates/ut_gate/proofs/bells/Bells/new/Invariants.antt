use Rattle.std.proofs.Common.{◌≡◌, ◌≤◌, vec_len, vec_capacity}
use Rattle.ut_gate.proofs.bells.Bells.new.Given as goal

abbrev pub invariant-loop : goal.invariant-loop
invariant-loop l = (vec_len l.bells ≡ l.counter) × (64 ≤ vec_capacity l.bells)
