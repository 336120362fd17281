use Rattle.ut_meaning.proofs.OccurringLaws.{distinct-occur, distinct-only}
use Rattle.ut_meaning.proofs.laws.occurring_values.Goals as goal

pub returns-clause-occur : goal.returns-clause-occur
returns-clause-occur c = distinct-occur

pub returns-clause-only : goal.returns-clause-only
returns-clause-only c = distinct-only
