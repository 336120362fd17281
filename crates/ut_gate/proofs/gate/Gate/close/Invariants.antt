use Rattle.std.proofs.Common.{length, ◌≡◌, [], List, ◌++◌}
use Rattle.ut_gate.specs.Steps.{IsAt}
use Rattle.ut_gate.specs.Passes.{Carried, Gathered}
use Rattle.ut_gate.proofs.gate.Gate.close.Given as goal

abbrev pub invariant-loop-pass : goal.invariant-loop-pass
invariant-loop-pass g l = IsAt l.line.table_id l.seat × (l.seat.me.1 ≡ []) × ((taken : List (Carried g.row.E-Entry.Denot g.row.E-Job.Denot)) × (l.fn.passes ≡ l.rest ++ taken) × Gathered taken l.seat.me.0)

abbrev pub decreases-loop-pass : goal.decreases-loop-pass
decreases-loop-pass g l = length l.rest
