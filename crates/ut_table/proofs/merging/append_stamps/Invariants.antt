use Rattle.std.proofs.Common.{◌≡◌, ◌+◌, ◌++◌, map, take, vec_len, vec_capacity}
use Rattle.ut_stamps.specs.StampLists.{stamp_at}
use Rattle.ut_table.specs.Places.{place_of_old}
use Rattle.ut_table.proofs.merging.append_stamps.Given as goal

abbrev pub invariant-loop-old : goal.invariant-loop-old
invariant-loop-old l = record {
  items : l.out.items ≡ l.fn.out.items ++ map (λ o. stamp_at l.stamps (place_of_old o)) (take l.old-index l.olds);
  len : vec_len l.out ≡ vec_len l.fn.out + l.old-index;
  capacity : vec_capacity l.out ≡ vec_capacity l.fn.out;
}
