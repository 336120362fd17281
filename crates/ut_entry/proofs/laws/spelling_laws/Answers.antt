use Rattle.ut_entry.proofs.OneSpelling.{one_spelling, spelling_some}
use Rattle.ut_entry.proofs.laws.spelling_laws.Goals as goal

pub returns-clause-one : goal.returns-clause-one
returns-clause-one c = one_spelling

pub returns-clause-some : goal.returns-clause-some
returns-clause-some c = spelling_some
