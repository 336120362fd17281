use Rattle.std.proofs.Common.{ap}
use Rattle.ut_course.specs.Coming.{is_good}
use Rattle.ut_course.proofs.ComeLemmas.{suits, spelled, comes_good, comes_bad}
use Rattle.ut_course.proofs.answer.answer_parsed.Goals as goal

pub answer-requires-clause-suits : goal.answer-requires-clause-suits
answer-requires-clause-suits g c = suits c.args.session c.in-Good.st c.requires.seat.0

pub answer-requires-clause-spelled : goal.answer-requires-clause-spelled
answer-requires-clause-spelled g c = spelled c.args.line _ c.in-Good.st c.in-Good.is c.requires.spelled

pub returns-in-Good-clause-comes : goal.returns-in-Good-clause-comes
returns-in-Good-clause-comes g c = comes_good _ _ _ c.args.session _ c.in-Good.st _ _ _ c.in-Good.is c.requires.own c.answer.ensures.serves

pub returns-in-Comment-clause-comes : goal.returns-in-Comment-clause-comes
returns-in-Comment-clause-comes g c = comes_bad _ _ _ c.args.session (g.met.D.Disk.only_now c.args.engine.now.disk) c.requires.own (ap is_good c.in-Comment.is)

pub returns-in-Stranger-clause-comes : goal.returns-in-Stranger-clause-comes
returns-in-Stranger-clause-comes g c = comes_bad _ _ _ c.args.session (g.met.D.Disk.only_now c.args.engine.now.disk) c.requires.own (ap is_good c.in-Stranger.is)

pub returns-in-Bad-clause-comes : goal.returns-in-Bad-clause-comes
returns-in-Bad-clause-comes g c = comes_bad _ _ _ c.args.session (g.met.D.Disk.only_now c.args.engine.now.disk) c.requires.own (ap is_good c.in-Bad.is)
