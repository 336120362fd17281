use Rattle.std.proofs.Common.{◌≡◌, ◌+◌, ◌≤◌, vec_len, vec_capacity}
use Rattle.std.specs.Prelude.{All}
use Rattle.check_gate.proofs.crew.spawn_all.Given as goal

abbrev pub invariant-loop-job : goal.invariant-loop-job
invariant-loop-job g l = All (λ j. j.pass.gate ≡ l.gate) l.jobs.items × All (λ j. j.pass.gate ≡ l.gate) l.done.items × All (λ h. h.promise.0.now ≡ l.gate) l.handles.items × (vec_len l.done + vec_len l.jobs + vec_len l.handles ≤ vec_capacity l.done) × (vec_len l.jobs + vec_len l.handles ≤ vec_capacity l.handles)

abbrev pub decreases-loop-job : goal.decreases-loop-job
decreases-loop-job g l = goal.left-loop-job g l
