use Rattle.std.proofs.Common.{◌≡◌, replicate, vec_len, vec_capacity}
use Rattle.ut_stamps.proofs.part_stamps.write.Given as goal

abbrev pub invariant-loop : goal.invariant-loop
invariant-loop l = record {
  items : l.list.items ≡ replicate l.counter l.stamp;
  len : vec_len l.list ≡ l.counter;
  capacity : vec_capacity l.list ≡ vec_capacity l.fn.list;
}
