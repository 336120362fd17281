use Rattle.ut_meaning.proofs.ResortingLaws.{columns-by_count, columns-only, places-resorted, resorted-only}
use Rattle.ut_meaning.proofs.laws.resorted_places.Goals as goal

pub returns-clause-columns : goal.returns-clause-columns
returns-clause-columns c = columns-by_count

pub returns-clause-only_columns : goal.returns-clause-only_columns
returns-clause-only_columns c = columns-only

pub returns-clause-places : goal.returns-clause-places
returns-clause-places c = places-resorted

pub returns-clause-only : goal.returns-clause-only
returns-clause-only c = resorted-only
