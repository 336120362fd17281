use Rattle.std.proofs.Common.{◌≡◌, ◌+◌, drop}
use Rattle.ut_prefix.specs.Spelling.{shared}
use Rattle.ut_prefix.proofs.write.shared_len.Given as goal

abbrev pub invariant-loop-i : goal.invariant-loop-i
invariant-loop-i l = shared l.a l.b ≡ l.i + shared (drop l.i l.a) (drop l.i l.b)
