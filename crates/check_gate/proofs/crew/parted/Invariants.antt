use Rattle.std.proofs.Common.{◌≡◌, ◌<◌, length}
use Rattle.std.specs.Prelude.{All}
use Rattle.check_gate.proofs.crew.parted.Given as goal

abbrev pub invariant-loop-act : goal.invariant-loop-act
invariant-loop-act g l = (0 < length l.passes.items) × All (λ p. p.gate ≡ l.gate) l.passes.items × All (λ j. j.pass.gate ≡ l.gate) l.jobs.items

abbrev pub decreases-loop-act : goal.decreases-loop-act
decreases-loop-act g l = length l.jobs.items
