use Rattle.std.proofs.Common.{◌≤◌, ◌+◌, vec_len}
use Rattle.ut_crowd.proofs.run.sessions.Given as goal

abbrev pub invariant-loop-session : goal.invariant-loop-session
invariant-loop-session g l = vec_len l.acts + 1 ≤ l.session
