use Rattle.std.proofs.Common.{◌≡◌, ◌+◌, ◌<◌, ◌^◌, [], drop, get_or, sym, ap, subst, ℕ, arith}
use Rattle.ut_reply.specs.Texts.{value_room, tuple_room}
use Rattle.ut_reply.proofs.LoopLemmas.{sum_more, sum_over}
use Rattle.ut_reply.proofs.RoomLemmas.{sum_whole}
use Rattle.ut_reply.proofs.RowLemmas.{sum_read}
use Rattle.ut_reply.proofs.room.tuple_room.Goals as goal

pub returns-in_err-room : goal.returns-in_err-room
returns-in_err-room c =
    let xs = get_or c.args.rows.now c.args.row [] in
    let i = c.loop-column.column in
    let v = c.value.result.now in
    let read : tuple_room (drop i xs) ≡ value_room v + 1 + tuple_room (drop (i + 1) xs) = sum_read (λ v. value_room v + 1) xs i v c.value.ensures in
    sum_over c.from_residual.result c.loop-column.room (c.value_room-more.result + 1) (value_room v + 1) (tuple_room (drop i xs)) (tuple_room (drop (i + 1) xs)) (tuple_room xs)
    c.from_residual.ensures c.in_err-room.ensures (ap (λ n. n + 1) c.value_room-more.ensures.value) c.loop-column.invariant.sum read

pub loop-column-preserved : goal.loop-column-preserved
loop-column-preserved c =
    let xs = get_or c.args.rows.now c.args.row [] in
    let i = c.loop-column.column in
    let v = c.value.result.now in
    let fits : c.loop-column.room + (c.value_room-more.result + 1) < 2 ^ 64 = c.in_ok-room.ensures.0 in
    let next : c.in_ok-room.room ≡ c.loop-column.room + (c.value_room-more.result + 1) = c.in_ok-room.ensures.1 in
    let read : tuple_room (drop i xs) ≡ value_room v + 1 + tuple_room (drop (i + 1) xs) = sum_read (λ v. value_room v + 1) xs i v c.value.ensures in
    record {
      sum = sum_more c.loop-column.room (c.value_room-more.result + 1) (value_room v + 1) (tuple_room (drop i xs)) (tuple_room (drop (i + 1) xs)) (tuple_room xs) c.in_ok-room.room
          (ap (λ n. n + 1) c.value_room-more.ensures.value) c.loop-column.invariant.sum read next;
      fits = subst (λ (n : ℕ). n < 2 ^ 64) (sym next) fits;
    }

pub returns : goal.returns
returns c =
    let xs = get_or c.args.rows.now c.args.row [] in
    let fits : c.loop-column.room < 2 ^ 64 = c.loop-column.invariant.fits in
    let is : c.loop-column.room ≡ tuple_room xs = sum_whole (λ v. value_room v + 1) xs c.loop-column.column c.loop-column.room (omega arith) c.loop-column.invariant.sum in
    (subst (λ (n : ℕ). n < 2 ^ 64) is fits, is)
