use Rattle.std.proofs.Common.{arith, length-append, ℕ}
use Rattle.ut_bits.proofs.BitLemmas.{AllBelow-append}
use Rattle.bench_codes.proofs.draws.codes.Goals as goal

pub loop-i-preserved : goal.loop-i-preserved
loop-i-preserved c = record {
  count = rw c.in_ok-push.ensures.items (omega (arith, c.loop-i.invariant.count, length-append {A = ℕ}));
  below = rw c.in_ok-push.ensures.items (AllBelow-append _ _ _ c.loop-i.invariant.below (c.code_at.ensures, tt));
}
