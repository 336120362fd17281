use Rattle.std.proofs.Common.{ℕ, ◌≡◌, ◌+◌, ◌<◌, ◌^◌, ap, subst, ◌∙◌}
use Rattle.std.specs.Prelude.{SomeIff, sum_by}
use Rattle.ut_reply.specs.Texts.{tuple_room}
use Rattle.ut_reply.proofs.RoomLemmas.{columns_take}
use Rattle.ut_reply.proofs.room.tuples_room.Goals as goal

pub returns-in-Some : goal.returns-in-Some
returns-in-Some c =
    let columns = c.in-Some.columns.now in
    let rows = c.args.rows.now in
    let is : c.len.result + sum_by tuple_room columns ≡ sum_by (λ t. tuple_room t + 1) rows = ap (λ n. n + sum_by tuple_room columns) c.len.ensures ∙ columns_take rows columns c.in-Some.ensures.rows c.in-Some.ensures.each in
    subst (λ (n : ℕ). SomeIff c.columns_room.result (n < 2 ^ 64) n) is c.columns_room.ensures
