use Rattle.ut_meaning.proofs.BestLaws.{least-told, least-only, greatest-told, greatest-only}
use Rattle.ut_meaning.proofs.laws.best_value.Goals as goal

pub returns-clause-least : goal.returns-clause-least
returns-clause-least c = least-told

pub returns-clause-only_least : goal.returns-clause-only_least
returns-clause-only_least c = least-only

pub returns-clause-greatest : goal.returns-clause-greatest
returns-clause-greatest c = greatest-told

pub returns-clause-only_greatest : goal.returns-clause-only_greatest
returns-clause-only_greatest c = greatest-only
