use Rattle.std.proofs.Common.{◌≡◌, ◌+◌, ◌<◌, ◌^◌, drop, sym, ap, subst, ℕ, arith}
use Rattle.std.specs.Prelude.{sum_by}
use Rattle.ut_plain.specs.declared.reply.Group.{Group}
use Rattle.ut_reply.specs.Texts.{value_room}
use Rattle.ut_reply.proofs.LoopLemmas.{item_read, item_sum, sum_more, sum_over}
use Rattle.ut_reply.proofs.RoomLemmas.{sum_whole}
use Rattle.ut_reply.proofs.room.groups_room.Goals as goal

pub returns-in_err-room : goal.returns-in_err-room
returns-in_err-room c =
    let xs = c.args.groups.now in
    let i = c.loop-group.group-index in
    let g = c.group-item.result in
    let room = λ (it : Group). value_room it.key + 42 in
    let read : sum_by room (drop i xs) ≡ room g + sum_by room (drop (i + 1) xs) = item_sum room xs i g (item_read xs i g c.loop-group-test.true c.group-item.is) in
    sum_over c.from_residual.result c.loop-group.room (c.value_room-more.result + 42) (room g) (sum_by room (drop i xs)) (sum_by room (drop (i + 1) xs)) (sum_by room xs)
    c.from_residual.ensures c.in_err-room.ensures (ap (λ n. n + 42) c.value_room-more.ensures.value) c.loop-group.invariant.sum read

pub loop-group-preserved : goal.loop-group-preserved
loop-group-preserved c =
    let xs = c.args.groups.now in
    let i = c.loop-group.group-index in
    let g = c.group-item.result in
    let room = λ (it : Group). value_room it.key + 42 in
    let read : sum_by room (drop i xs) ≡ room g + sum_by room (drop (i + 1) xs) = item_sum room xs i g (item_read xs i g c.loop-group-test.true c.group-item.is) in
    let fits : c.loop-group.room + (c.value_room-more.result + 42) < 2 ^ 64 = c.in_ok-room.ensures.0 in
    let next : c.in_ok-room.room ≡ c.loop-group.room + (c.value_room-more.result + 42) = c.in_ok-room.ensures.1 in
    record {
      sum = sum_more c.loop-group.room (c.value_room-more.result + 42) (room g) (sum_by room (drop i xs)) (sum_by room (drop (i + 1) xs)) (sum_by room xs) c.in_ok-room.room
          (ap (λ n. n + 42) c.value_room-more.ensures.value) c.loop-group.invariant.sum read next;
      fits = subst (λ (n : ℕ). n < 2 ^ 64) (sym next) fits;
    }

pub returns : goal.returns
returns c =
    let xs = c.args.groups.now in
    let fits : c.loop-group.room < 2 ^ 64 = c.loop-group.invariant.fits in
    let is : c.loop-group.room ≡ sum_by (λ g. value_room g.key + 42) xs = sum_whole (λ g. value_room g.key + 42) xs c.loop-group.group-index c.loop-group.room (omega arith) c.loop-group.invariant.sum in
    (subst (λ (n : ℕ). n < 2 ^ 64) is fits, is)
