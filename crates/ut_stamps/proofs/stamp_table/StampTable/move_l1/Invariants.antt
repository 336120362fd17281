use Rattle.std.proofs.Common.{◌≡◌, ◌+◌, ◌≤◌, ◌++◌, take, vec_len, vec_capacity}
use Rattle.ut_stamps.specs.StampLists.{items_of}
use Rattle.ut_stamps.proofs.stamp_table.StampTable.move_l1.Given as goal

abbrev pub invariant-loop-i : goal.invariant-loop-i
invariant-loop-i l = record {
  l1 : l.self-inside.l1 ≡ l.fn.self.l1;
  l2 : l.self-inside.l2.items ≡ l.fn.self.l2.items ++ take l.i l.fn.self.l1.items;
  room : l.self-inside.l2.room + l.i ≡ l.fn.self.l2.room;
  closed : items_of l.self-inside.closed ≡ l.fn.self.closed;
  parts : l.self-inside.parts.items ≡ l.fn.self.parts;
  few : vec_len l.self-inside.parts ≤ 8;
  capacity : 8 ≤ vec_capacity l.self-inside.parts;
}
