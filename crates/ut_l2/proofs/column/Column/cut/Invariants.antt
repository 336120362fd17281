use Rattle.std.proofs.Common.{◌≡◌, ◌≤◌, length, take}
use Rattle.ut_l2.proofs.column.Column.cut.Given as goal

abbrev pub invariant-loop-self : goal.invariant-loop-self
invariant-loop-self l = record { above : l.n ≤ length l.self; front : l.self ≡ take (length l.self) l.fn.self }

abbrev pub decreases-loop-self : goal.decreases-loop-self
decreases-loop-self l = length l.self
