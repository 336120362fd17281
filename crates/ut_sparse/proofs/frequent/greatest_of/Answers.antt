use Rattle.std.proofs.Common.{arith}
use Rattle.ut_sparse.proofs.SparseLemmas.{AllBelow-next}
use Rattle.ut_sparse.proofs.frequent.greatest_of.Goals as goal
use Rattle.ut_sparse.proofs.frequent.greatest_of.Goals.{then-code-greatest, else-code-greatest}

pub loop-code-preserved : goal.loop-code-preserved
loop-code-preserved c =
    elim c.if-code-greatest.branch [
      | then-code-greatest w ↦ rw w.greatest-is (AllBelow-next _ _ c.args.codes.now c.loop-code.code-index c.loop-code.invariant c.loop-code-test.true (omega arith) (omega arith))
      | else-code-greatest w ↦ rw w.greatest-is (AllBelow-next _ _ c.args.codes.now c.loop-code.code-index c.loop-code.invariant c.loop-code-test.true (omega arith) (omega arith))
    ]
