use Rattle.std.proofs.Common.{◌≡◌, ◌≤◌, ◌+◌, ◌++◌, [], drop, get_or, vec_len, vec_capacity}
use Rattle.ut_reply.specs.Texts.{more_text, tuple_text, tuple_room}
use Rattle.ut_reply.proofs.values.add_tuple.Given as goal

abbrev pub invariant-loop-column : goal.invariant-loop-column
invariant-loop-column l = record {
  text : l.out.items ++ more_text (drop l.column (get_or l.rows l.row [])) ≡ l.fn.out.items ++ tuple_text (get_or l.rows l.row []);
  room : vec_len l.out + tuple_room (drop l.column (get_or l.rows l.row [])) ≤ vec_len l.fn.out + tuple_room (get_or l.rows l.row []);
  capacity : vec_capacity l.fn.out ≤ vec_capacity l.out;
}
