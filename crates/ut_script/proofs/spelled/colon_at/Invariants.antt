use Rattle.std.proofs.Common.{◌≡◌, ◌+◌, drop}
use Rattle.ut_script.specs.Literals.{colon_at}
use Rattle.ut_script.proofs.spelled.colon_at.Given as goal

abbrev pub invariant-loop-i : goal.invariant-loop-i
invariant-loop-i l = colon_at (drop l.i l.word) + l.i ≡ colon_at l.word
