use Rattle.std.proofs.Common.{◌≡◌, ◌*◌, ◌++◌, length, take, drop, map, ap, ◌∙◌, arith}
use Rattle.std.specs.List.{range_with_len}
use Rattle.ut_image.specs.Bytes.{mark_byte, mark_bytes, marks_len}
use Rattle.ut_image.proofs.MarkLemmas.{one_more}
use Rattle.ut_image.proofs.marks.put_marks.Goals as goal

pub loop-k-preserved : goal.loop-k-preserved
loop-k-preserved c = record {
  items = one_more (λ k. mark_byte (take 8 (drop (8 * k) c.args.marks.now))) c.loop-k.k c.args.out.now.items c.loop-k.out.items _ c.byte_at.result c.loop-k.invariant.items c.push_reserved.ensures.items c.byte_at.ensures;
  len = omega arith;
  room = omega arith;
}

pub returns-clause-items : goal.returns-clause-items
unfolding mark_bytes
returns-clause-items c =
    c.loop-k.invariant.items ∙ ap (λ n. c.args.out.now.items ++ map (λ k. mark_byte (take 8 (drop (8 * k) c.args.marks.now))) (range_with_len 0 n)) (let all : c.loop-k.k ≡ marks_len (length c.args.marks.now) = omega arith in all)
