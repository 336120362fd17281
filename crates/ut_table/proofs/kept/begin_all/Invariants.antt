use Rattle.std.proofs.Common.{◌≡◌, ◌+◌, ◌++◌, replicate, None}
use Rattle.ut_table.proofs.kept.begin_all.Given as goal

abbrev pub invariant-loop : goal.invariant-loop
invariant-loop l = record {
  others : l.stamps ≡ record l.fn.stamps { l2 = l.stamps.l2 };
  l2 : l.stamps.l2.items ≡ l.fn.stamps.l2.items ++ replicate l.counter (record { begin = l.t; end = None });
  room : l.stamps.l2.room + l.counter ≡ l.fn.stamps.l2.room;
}
