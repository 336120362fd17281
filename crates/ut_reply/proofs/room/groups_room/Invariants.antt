use Rattle.std.proofs.Common.{◌≡◌, ◌+◌, ◌<◌, ◌^◌, drop}
use Rattle.std.specs.Prelude.{sum_by}
use Rattle.ut_reply.specs.Texts.{value_room}
use Rattle.ut_reply.proofs.room.groups_room.Given as goal

abbrev pub invariant-loop-group : goal.invariant-loop-group
invariant-loop-group l = record {
  sum : l.room + sum_by (λ g. value_room g.key + 42) (drop l.group-index l.groups) ≡ sum_by (λ g. value_room g.key + 42) l.groups;
  fits : l.room < 2 ^ 64;
}
