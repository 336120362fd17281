use Rattle.ut_course.proofs.ComeLemmas.{comes_statement}
use Rattle.ut_course.proofs.answer.answer_statement.Goals as goal

pub returns-clause-comes : goal.returns-clause-comes
returns-clause-comes g c = comes_statement _ _ 0 c.args.st.now _ _ _ c.statement.ensures.serves
