use Rattle.ut_shot.proofs.AnswerLaws.{asked_outside, answers_stay}
use Rattle.ut_shot.proofs.laws.answer_laws.Goals as goal

pub returns : goal.returns
returns c = record { asked = asked_outside; stay = answers_stay }
