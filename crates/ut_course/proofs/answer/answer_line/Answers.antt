use Rattle.std.proofs.Common.{◌≡◌, true, sym, subst}
use Rattle.ut_plain.specs.declared.statement.Parsed.{Parsed}
use Rattle.ut_course.specs.Coming.{is_of, session_in}
use Rattle.ut_course.proofs.ComeLemmas.{in_range, spelled_line, comes_lacking}
use Rattle.ut_course.proofs.answer.answer_line.Goals as goal

pub answer_parsed-requires-clause-seat : goal.answer_parsed-requires-clause-seat
answer_parsed-requires-clause-seat g c = let r = in_range c.args.session c.args.line.now c.requires.own in (r.least, r.most)

pub answer_parsed-requires-clause-own : goal.answer_parsed-requires-clause-own
answer_parsed-requires-clause-own g c = subst (λ (l : Parsed). is_of c.args.session (session_in l) ≡ true) (sym c.in-Ok.ensures.says) c.requires.own

pub answer_parsed-requires-clause-spelled : goal.answer_parsed-requires-clause-spelled
answer_parsed-requires-clause-spelled g c = spelled_line c.args.line.now _ c.in-Ok.ensures.says

pub returns-in-Err-clause-comes : goal.returns-in-Err-clause-comes
returns-in-Err-clause-comes g c = comes_lacking _ _ _ c.args.session c.in-Err.field-0.session (g.met.D.Disk.only_now c.args.engine.now.disk) c.in-Err.ensures.memory c.requires.own
