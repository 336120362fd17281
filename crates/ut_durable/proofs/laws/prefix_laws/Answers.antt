use Rattle.ut_durable.proofs.MomentLemmas.{prefix_of_more, prefix_of_fewer}
use Rattle.ut_durable.proofs.laws.prefix_laws.Goals as goal

pub returns : goal.returns
returns c = record { more = prefix_of_more; fewer = prefix_of_fewer }
