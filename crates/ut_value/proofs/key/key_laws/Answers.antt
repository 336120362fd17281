use Rattle.ut_value.proofs.KeyLemmas.{keys_in_order}
use Rattle.ut_value.proofs.key.key_laws.Goals as goal

pub returns-clause-order : goal.returns-clause-order
returns-clause-order c = keys_in_order
