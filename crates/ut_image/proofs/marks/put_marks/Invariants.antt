use Rattle.std.proofs.Common.{◌≡◌, ◌+◌, ◌*◌, ◌≤◌, ◌++◌, map, take, drop, vec_len, vec_capacity}
use Rattle.std.specs.List.{range_with_len}
use Rattle.ut_image.specs.Bytes.{mark_byte}
use Rattle.ut_image.proofs.marks.put_marks.Given as goal

abbrev pub invariant-loop-k : goal.invariant-loop-k
invariant-loop-k l = record {
  items : l.out.items ≡ l.fn.out.items ++ map (λ k. mark_byte (take 8 (drop (8 * k) l.marks))) (range_with_len 0 l.k);
  len : vec_len l.out ≡ vec_len l.fn.out + l.k;
  room : vec_capacity l.fn.out ≤ vec_capacity l.out;
}
