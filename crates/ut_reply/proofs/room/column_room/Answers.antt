use Rattle.std.proofs.Common.{ℕ, ◌≡◌, ◌<◌, ◌^◌, get_or, sym, ap, subst, ◌∙◌}
use Rattle.std.specs.Prelude.{SomeIff, sum_by}
use Rattle.ut_reply.specs.Texts.{tuple_room}
use Rattle.ut_reply.proofs.RoomLemmas.{shared_take}
use Rattle.ut_reply.proofs.room.column_room.Goals as goal

pub returns-in-Ok : goal.returns-in-Ok
returns-in-Ok c =
    let values = c.shared.result.0.now in
    let places = c.shared.result.1.now in
    let rooms = c.deref.result.now in
    let is : sum_by (λ place. get_or rooms place 0) places ≡ tuple_room c.args.column.now =
    shared_take values places rooms (c.deref.ensures.value ∙ c.in-Ok.ensures) c.shared.ensures.within ∙ ap tuple_room (sym c.shared.ensures.rows) in
    subst (λ (n : ℕ). SomeIff c.shared_room.result (n < 2 ^ 64) n) is c.shared_room.ensures
