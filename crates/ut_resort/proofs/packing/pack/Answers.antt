use Rattle.std.proofs.Common.{take, sym, ◌∙◌, subst, arith}
use Rattle.ut_resort.specs.Sorting.{ArePacked, lists_now}
use Rattle.ut_resort.proofs.PackLemmas.{packed-more, take-lists, widened-below}
use Rattle.ut_resort.proofs.packing.pack.Goals as goal

pub loop-i-preserved : goal.loop-i-preserved
loop-i-preserved c =
    let old = c.loop-i.keys in
    let new = c.widen.new.keys in
    let radix = c.radix_of-radix.result in
    let i = c.loop-i.i in (
      omega arith,
      c.widen.ensures.length ∙ c.loop-i.invariant.1,
      widened-below _ old new c.loop-i.limit radix c.in-Some.next c.in-Some.ensures.1 c.widen.ensures.length c.widen.ensures.keys c.radix_of-radix.ensures.more c.loop-i.invariant.2,
      omega arith,
      subst (λ lists. ArePacked lists new) (sym (take-lists c.args.lists.now i _ c.loop-i-test.true)) (packed-more (take i (lists_now c.args.lists.now)) _ old new radix c.radix_of-radix.ensures.more c.widen.ensures.length c.widen.ensures.keys c.loop-i.invariant.4),
    )
