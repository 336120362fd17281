use Rattle.std.proofs.Common.{◌≡◌, ℕ, [], length, get_or}
use Rattle.ut_l2.proofs.l2.L2.new.Given as goal

abbrev pub invariant-loop : goal.invariant-loop
invariant-loop l = record { count : length l.list.items ≡ l.counter; empty : (j : ℕ) → length (get_or l.list.items j []) ≡ 0 }
