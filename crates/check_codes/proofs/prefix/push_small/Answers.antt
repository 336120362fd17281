use Rattle.std.proofs.Common.{subst, rules}
use Rattle.ut_prefix.specs.Chain.{LacksAll}
use Rattle.check_codes.proofs.prefix.push_small.Goals as goal

pub push-requires-clause-apart : goal.push-requires-clause-apart
push-requires-clause-apart g c = subst (λ l. LacksAll c.args.chain.now l) c.deref.ensures (c.lacks_all.ensures.lacks.0 (search rules))
