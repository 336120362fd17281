use Rattle.std.proofs.Common.{length, sym}
use Rattle.ut_prefix.specs.Reading.{block_keys}
use Rattle.ut_prefix.proofs.TotalLemmas.{weighed_above-usual}
use Rattle.ut_prefix.proofs.weigh.block_above.Goals as goal

pub returns-then-are_usual-clause-sum : goal.returns-then-are_usual-clause-sum
returns-then-are_usual-clause-sum c =
    sym (weighed_above-usual c.args.usual c.args.weights.now (block_keys (length c.args.weights.now) c.args.block.now) (c.are_usual.ensures.usual c.if-are_usual.true))
