use Rattle.std.proofs.Common.{arith}
use Rattle.ut_prefix.proofs.AboveLemmas.{usual-more, usual-all}
use Rattle.ut_prefix.proofs.weigh.are_usual.Goals as goal

pub loop-weight-preserved : goal.loop-weight-preserved
loop-weight-preserved c = (
  usual-more c.args.weights.now c.loop-weight.weight-index c.args.usual c.loop-weight.are (omega arith) c.loop-weight.invariant.0,
  λ _. omega arith,
)

pub returns-clause-usual : goal.returns-clause-usual
returns-clause-usual c = λ are. usual-all c.args.weights.now c.loop-weight.weight-index c.args.usual (omega arith) (c.loop-weight.invariant.0 are)
