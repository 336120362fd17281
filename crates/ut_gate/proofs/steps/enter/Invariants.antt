use Rattle.std.proofs.Common.{◌≡◌, ◌≤◌}
use Rattle.ut_gate.specs.Steps.{IsAt, IsWaiting}
use Rattle.ut_gate.proofs.steps.enter.Given as goal

abbrev pub invariant-loop : goal.invariant-loop
invariant-loop g l =
    IsAt l.line.table_id l.seat
    × (l.seat.id ≡ l.fn.seat.id)
    × IsWaiting l.ticket l.fn.seat.me l.seat.me
    × (l.looks ≤ 64)
