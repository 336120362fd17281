use Rattle.std.proofs.Common.{◌≡◌, ◌+◌, ◌≤◌, vec_len, vec_capacity}
use Rattle.std.specs.Prelude.{All}
use Rattle.check_gate.proofs.crew.join_each.Given as goal

abbrev pub invariant-loop-child : goal.invariant-loop-child
invariant-loop-child g l = All (λ j. j.pass.gate ≡ l.gate) l.done.items × All (λ h. h.promise.0.now ≡ l.gate) l.handles.items × (vec_len l.done + vec_len l.handles ≤ vec_capacity l.done)

abbrev pub decreases-loop-child : goal.decreases-loop-child
decreases-loop-child g l = goal.left-loop-child g l
