use Rattle.ut_prefix.proofs.OrderLemmas.{count_below-split}
use Rattle.ut_prefix.proofs.dict.PrefixDict.lower.Goals as goal

pub returns-clause-count : goal.returns-clause-count
returns-clause-count g c = count_below-split c.args.self.now c.args.key.now c.split.result.below c.split.result.above c.split.ensures.split
