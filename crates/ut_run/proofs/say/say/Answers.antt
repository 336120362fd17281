use Rattle.std.proofs.Common.{sym, ◌∙◌, subst, refl}
use Rattle.ut_plain.specs.declared.statement.Parsed.{Parsed}
use Rattle.ut_run.specs.Saying.{IsKnown, Says}
use Rattle.ut_run.proofs.LineLemmas.{line_known}
use Rattle.ut_run.proofs.SayLemmas.{says_nothing, says_stranger, says_bad, says_statement, said_faults, says_lacking}
use Rattle.ut_run.proofs.say.say.Goals as goal

pub returns-in-Ok-Comment-clause-says : goal.returns-in-Ok-Comment-clause-says
returns-in-Ok-Comment-clause-says g c =
    says_nothing _ _ _ _ _ (g.met.D.Disk.only_now c.args.engine.now.disk) (sym c.in-Ok-Comment.ensures.says ∙ c.in-Ok-Comment.field-0-is) refl c.requires.empty

pub returns-in-Ok-Stranger-clause-says : goal.returns-in-Ok-Stranger-clause-says
returns-in-Ok-Stranger-clause-says g c =
    says_stranger _ _ _ _ _ (g.met.D.Disk.only_now c.args.engine.now.disk) (sym c.in-Ok-Stranger.ensures.says ∙ c.in-Ok-Stranger.field-0-is) c.refuse.ensures.said c.refuse.ensures.text

pub returns-in-Ok-Bad-clause-says : goal.returns-in-Ok-Bad-clause-says
returns-in-Ok-Bad-clause-says g c =
    says_bad _ _ _ c.in-Ok-Bad.session _ _ (g.met.D.Disk.only_now c.args.engine.now.disk) (sym c.in-Ok-Bad.ensures.says ∙ c.in-Ok-Bad.field-0-is) c.refuse-in-Ok-Bad.ensures.said c.refuse-in-Ok-Bad.ensures.text

pub answer-reply-requires-clause-seat : goal.answer-reply-requires-clause-seat
answer-reply-requires-clause-seat g c = (subst (λ (l : Parsed). IsKnown l) (sym c.in-Ok-Good.ensures.says ∙ c.in-Ok-Good.field-0-is) (line_known c.args.line.now)).0

pub answer-reply-requires-clause-suits : goal.answer-reply-requires-clause-suits
answer-reply-requires-clause-suits g c = (subst (λ (l : Parsed). IsKnown l) (sym c.in-Ok-Good.ensures.says ∙ c.in-Ok-Good.field-0-is) (line_known c.args.line.now)).1

pub answer-reply-requires-clause-spelled : goal.answer-reply-requires-clause-spelled
answer-reply-requires-clause-spelled g c = (subst (λ (l : Parsed). IsKnown l) (sym c.in-Ok-Good.ensures.says ∙ c.in-Ok-Good.field-0-is) (line_known c.args.line.now)).2

pub returns-in-Ok-Good-clause-says : goal.returns-in-Ok-Good-clause-says
returns-in-Ok-Good-clause-says g c =
    subst (λ (l : Parsed). Says c.args.engine.now.store (g.D.Disk.view c.args.engine.now.disk) l c.said_of.result c.answer-reply.new.self.store (g.D.Disk.view c.answer-reply.new.self.disk) c.put_text.new.text.items) (sym c.in-Ok-Good.field-0-is ∙ c.in-Ok-Good.ensures.says)
    (says_statement c.args.engine.now.store (g.D.Disk.view c.args.engine.now.disk) c.in-Ok-Good.session c.in-Ok-Good.st c.answer-reply.result c.answer-reply.new.self.store (g.D.Disk.view c.answer-reply.new.self.disk) c.put_text.new.text.items c.said_of.result c.answer-reply.ensures.serves c.put_text.ensures.text c.said_of.ensures)

pub returns-in-Ok-Good-clause-cause : goal.returns-in-Ok-Good-clause-cause
returns-in-Ok-Good-clause-cause g c =
    said_faults c.args.engine.now.store (g.D.Disk.view c.args.engine.now.disk) c.in-Ok-Good.session c.in-Ok-Good.st c.answer-reply.result c.answer-reply.new.self.store (g.D.Disk.view c.answer-reply.new.self.disk) c.said_of.result c.answer-reply.ensures.serves c.said_of.ensures

pub returns-in-Err-clause-says : goal.returns-in-Err-clause-says
returns-in-Err-clause-says g c = says_lacking _ _ _ c.in-Err.lacks.session _ _ (g.met.D.Disk.only_now c.args.engine.now.disk) c.in-Err.ensures.memory c.refuse-in-Err.ensures.said c.refuse-in-Err.ensures.text
