use Rattle.std.proofs.Common.{sym, subst}
use Rattle.ut_merge.specs.Jobs.{JobValue, IsBuilt}
use Rattle.ut_merge.proofs.building.built_of.Goals as goal

pub of-requires-clause-built : goal.of-requires-clause-built
of-requires-clause-built c = subst (λ (j : JobValue). IsBuilt j c.push_part.new.main c.in_ok-olds.olds.items) (sym c.in_ok-job.ensures) c.in_ok-olds.ensures
