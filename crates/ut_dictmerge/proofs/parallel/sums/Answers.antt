use Rattle.std.proofs.Common.{◌+◌, arith, ap, ◌∙◌, length}
use Rattle.std.proofs.lemmas.List.{length_push}
use Rattle.ut_dictmerge.proofs.FrontLemmas.{sums_small, sums_more, total-more}
use Rattle.ut_dictmerge.proofs.parallel.sums.Goals as goal

pub overflow_add-sum : goal.overflow_add-sum
overflow_add-sum c = let s = sums_small c.args.counts.now c.loop-count.count-index c.loop-count-test.true in omega (arith, s, c.loop-count.invariant.1, c.requires)

pub loop-count-preserved : goal.loop-count-preserved
loop-count-preserved c = (
  ap (λ l. length l) c.in_ok-push.ensures.items ∙ length_push c.loop-count.all.items c.loop-count.sum ∙ ap (λ n. n + 1) c.loop-count.invariant.0,
  (let m = total-more c.args.counts.now c.loop-count.count-index c.loop-count-test.true in omega (arith, m, c.loop-count.invariant.1)),
  sums_more c.args.counts.now c.loop-count.all.items c.loop-count.count-index c.loop-count.sum c.push.new.self.items c.loop-count.invariant.0 c.loop-count.invariant.1 c.loop-count.invariant.2 c.in_ok-push.ensures.items,
)
