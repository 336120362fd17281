use Rattle.std.proofs.Common.{◌≡◌, ℕ, get_or}
use Rattle.ut_ops.proofs.gather.no_marks.Given as goal

abbrev pub invariant-loop : goal.invariant-loop
invariant-loop l = (code : ℕ) → get_or l.marks.items code 0 ≡ 0
