use Rattle.std.proofs.Common.{◌∙◌, ◌++◌, [], ◌∷◌, sym, ap, arith}
use Rattle.ut_unsorted.proofs.OrderLemmas.{range-more}
use Rattle.ut_unsorted.proofs.order.codes_below.Goals as goal

pub loop-code-preserved : goal.loop-code-preserved
loop-code-preserved c = (
  omega arith,
  c.in_ok-push.ensures.items ∙ ap (λ l. l ++ c.loop-code.code ∷ []) c.loop-code.invariant.1 ∙ sym (range-more c.loop-code.code),
)
