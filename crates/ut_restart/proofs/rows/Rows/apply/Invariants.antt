use Rattle.ut_restart.specs.Applied.{Applied}
use Rattle.ut_restart.proofs.rows.Rows.apply.Given as goal

abbrev pub invariant-loop-op : goal.invariant-loop-op
invariant-loop-op l =
    (goal.iterator-loop-op).can_next l.op-iterator ×
    (goal.iterator-loop-op).is_finite l.op-iterator × Applied l.tables l.initial.self l.yielded l.self
