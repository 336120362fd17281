use Rattle.std.proofs.Common.{◌≡◌, ℕ, List, get_or, subst, sym}
use Rattle.ut_ops.proofs.SeenLemmas.{zeros-push}
use Rattle.ut_ops.proofs.gather.no_marks.Goals as goal

pub loop-preserved : goal.loop-preserved
loop-preserved c = subst (λ (ms : List ℕ). (code : ℕ) → get_or ms code 0 ≡ 0) (sym c.in_ok-push.ensures.items) (zeros-push c.loop.marks.items c.loop.invariant)
