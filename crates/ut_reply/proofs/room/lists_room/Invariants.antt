use Rattle.std.proofs.Common.{◌≡◌, ◌+◌, ◌<◌, ◌^◌, drop}
use Rattle.std.specs.Prelude.{sum_by}
use Rattle.ut_reply.specs.Texts.{tuple_room}
use Rattle.ut_reply.proofs.room.lists_room.Given as goal

abbrev pub invariant-loop-row : goal.invariant-loop-row
invariant-loop-row l = record {
  sum : l.room + sum_by (λ t. tuple_room t + 1) (drop l.row l.rows) ≡ sum_by (λ t. tuple_room t + 1) l.rows;
  fits : l.room < 2 ^ 64;
}
