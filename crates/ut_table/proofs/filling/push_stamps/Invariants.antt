use Rattle.std.proofs.Common.{◌≡◌}
use Rattle.ut_table.proofs.filling.push_stamps.Given as goal

abbrev pub invariant-loop-part : goal.invariant-loop-part
invariant-loop-part l = l.stamps ≡ record l.initial.stamps { parts = l.yielded }
