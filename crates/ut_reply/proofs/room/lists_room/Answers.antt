use Rattle.std.proofs.Common.{◌≡◌, ◌+◌, ◌<◌, ◌^◌, subst, ℕ, arith}
use Rattle.std.specs.Prelude.{sum_by}
use Rattle.ut_reply.specs.Texts.{tuple_room}
use Rattle.ut_reply.proofs.RoomLemmas.{sum_whole}
use Rattle.ut_reply.proofs.room.lists_room.Goals as goal

pub returns : goal.returns
returns c =
    let xs = c.args.rows.now in
    let fits : c.loop-row.room < 2 ^ 64 = c.loop-row.invariant.fits in
    let is : c.loop-row.room ≡ sum_by (λ t. tuple_room t + 1) xs = sum_whole (λ t. tuple_room t + 1) xs c.loop-row.row c.loop-row.room (omega arith) c.loop-row.invariant.sum in
    (subst (λ (n : ℕ). n < 2 ^ 64) is fits, is)
