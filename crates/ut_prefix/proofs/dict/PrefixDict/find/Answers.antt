use Rattle.std.proofs.Common.{refl}
use Rattle.ut_prefix.proofs.OrderLemmas.{absent_between}
use Rattle.ut_prefix.proofs.dict.PrefixDict.find.Goals as goal

pub returns-else-split-clause-absent : goal.returns-else-split-clause-absent
returns-else-split-clause-absent g c =
    (λ _. absent_between c.args.self.now c.args.key.now c.split-split.result.below c.split-split.result.above c.split-split.ensures.split c.if-split.false, λ _. refl)
