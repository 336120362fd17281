use Rattle.std.proofs.Common.{◌≡◌, ◌+◌, ◌<◌, ◌^◌, [], drop, get_or}
use Rattle.ut_reply.specs.Texts.{tuple_room}
use Rattle.ut_reply.proofs.room.tuple_room.Given as goal

abbrev pub invariant-loop-column : goal.invariant-loop-column
invariant-loop-column l = record {
  sum : l.room + tuple_room (drop l.column (get_or l.rows l.row [])) ≡ tuple_room (get_or l.rows l.row []);
  fits : l.room < 2 ^ 64;
}
