use Rattle.std.proofs.Common.{sym, subst, arith}
use Rattle.ut_bits.specs.Bits.{AllBelow}
use Rattle.ut_bits.proofs.BitLemmas.{AllBelow-append}
use Rattle.check_codes.proofs.recode.repeated.Goals as goal

pub loop-i-preserved : goal.loop-i-preserved
loop-i-preserved g c =
    subst (λ l. AllBelow 3 l) (sym c.in_ok-push.ensures.items) (AllBelow-append 3 c.loop-i.codes.items _ c.loop-i.invariant (omega arith, tt))
