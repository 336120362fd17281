use Rattle.std.proofs.Common.{◌≡◌, ◌≤◌, ◌+◌, ◌++◌, drop, vec_len, vec_capacity}
use Rattle.ut_reply.specs.Columns.{row_text, row_room}
use Rattle.ut_reply.proofs.columns.add_row.Given as goal

abbrev pub invariant-loop-column : goal.invariant-loop-column
invariant-loop-column l = record {
  text : l.out.items ++ row_text (drop l.column-index l.columns) l.row ≡ l.fn.out.items ++ row_text l.columns l.row;
  room : vec_len l.out + row_room (drop l.column-index l.columns) l.row ≤ vec_len l.fn.out + row_room l.columns l.row;
  capacity : vec_capacity l.fn.out ≤ vec_capacity l.out;
}
