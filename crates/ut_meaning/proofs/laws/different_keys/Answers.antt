use Rattle.ut_meaning.proofs.KeyLaws.{own-new, own-only, counts-keys}
use Rattle.ut_meaning.proofs.laws.different_keys.Goals as goal

pub returns-clause-new : goal.returns-clause-new
returns-clause-new c = own-new

pub returns-clause-only : goal.returns-clause-only
returns-clause-only c = own-only

pub returns-clause-count : goal.returns-clause-count
returns-clause-count c = counts-keys
