use Rattle.std.proofs.Common.{◌≡◌, ◌+◌, map, take}
use Rattle.ut_reply.specs.Texts.{value_room}
use Rattle.ut_reply.proofs.room.rooms_of.Given as goal

abbrev pub invariant-loop-value : goal.invariant-loop-value
invariant-loop-value l = l.rooms.items ≡ map (λ v. value_room v + 1) (take l.value-index l.values)
