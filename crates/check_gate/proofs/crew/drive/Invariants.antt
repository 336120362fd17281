use Rattle.std.proofs.Common.{◌≡◌}
use Rattle.check_gate.proofs.crew.drive.Given as goal

abbrev pub invariant-loop : goal.invariant-loop
invariant-loop g l = l.pass.gate ≡ l.gate
