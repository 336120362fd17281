use Rattle.std.proofs.Common.{◌≡◌, ℕ, ◌+◌, ◌≤◌, [], replicate, vec_capacity}
use Rattle.ut_gate.specs.Steps.{IsAt}
use Rattle.ut_gate.specs.Tells.{newcomer}
use Rattle.ut_gate.specs.Passes.{fresh}
use Rattle.ut_gate.proofs.gate.deal.Given as goal

abbrev pub invariant-loop-i : goal.invariant-loop-i
invariant-loop-i g l = IsAt l.line.table_id l.seat × (l.seats ≤ vec_capacity l.passes) × ((n : ℕ) × (spare : ℕ) × (l.seat.me ≡ (newcomer [] spare, [])) × (spare + n ≡ 63) × (n + 1 ≡ l.i) × (l.passes.items ≡ replicate n (fresh l.line.table_id)))
