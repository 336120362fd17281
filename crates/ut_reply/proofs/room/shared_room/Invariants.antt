use Rattle.std.proofs.Common.{◌≡◌, ◌+◌, ◌<◌, ◌^◌, drop, get_or}
use Rattle.std.specs.Prelude.{sum_by}
use Rattle.ut_reply.proofs.room.shared_room.Given as goal

abbrev pub invariant-loop-place : goal.invariant-loop-place
invariant-loop-place l = record {
  sum : l.room + sum_by (λ place. get_or l.rooms place 0) (drop l.place-index l.places) ≡ sum_by (λ place. get_or l.rooms place 0) l.places;
  fits : l.room < 2 ^ 64;
}
