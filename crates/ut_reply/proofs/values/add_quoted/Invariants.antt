use Rattle.std.proofs.Common.{◌≡◌, ◌≤◌, ◌+◌, ◌*◌, ◌++◌, drop, take, vec_len, vec_capacity}
use Rattle.ut_reply.specs.Texts.{quoted}
use Rattle.ut_reply.proofs.values.add_quoted.Given as goal

abbrev pub invariant-loop-i : goal.invariant-loop-i
invariant-loop-i l = record {
  text : l.out.items ++ drop l.start (take l.i l.bytes) ++ quoted (drop l.i l.bytes) ≡ l.fn.out.items ++ quoted l.bytes;
  within : l.start ≤ l.i;
  room : vec_len l.out ≤ vec_len l.fn.out + 2 * l.start;
  capacity : vec_capacity l.fn.out ≤ vec_capacity l.out;
}
