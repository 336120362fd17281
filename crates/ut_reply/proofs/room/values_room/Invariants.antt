use Rattle.std.proofs.Common.{◌≡◌, ◌+◌, ◌<◌, ◌^◌, drop}
use Rattle.ut_rows.specs.Columns.{values_at}
use Rattle.ut_reply.specs.Texts.{tuple_room}
use Rattle.ut_reply.proofs.room.values_room.Given as goal

abbrev pub invariant-loop-place : goal.invariant-loop-place
invariant-loop-place l = record {
  sum : l.room + tuple_room (values_at l.values (drop l.place-index l.places)) ≡ tuple_room (values_at l.values l.places);
  fits : l.room < 2 ^ 64;
}
