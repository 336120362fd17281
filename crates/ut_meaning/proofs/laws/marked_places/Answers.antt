use Rattle.ut_meaning.proofs.MarkingLaws.{marks-one, marks-none, keeps-shape}
use Rattle.ut_meaning.proofs.laws.marked_places.Goals as goal

pub returns-clause-one : goal.returns-clause-one
returns-clause-one c = marks-one

pub returns-clause-none : goal.returns-clause-none
returns-clause-none c = marks-none

pub returns-clause-shape : goal.returns-clause-shape
returns-clause-shape c = keeps-shape
