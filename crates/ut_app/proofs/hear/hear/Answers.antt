use Rattle.std.proofs.Common.{sym, ◌∙◌, subst, refl}
use Rattle.ut_plain.specs.declared.statement.Parsed.{Parsed}
use Rattle.ut_run.specs.Saying.{IsKnown}
use Rattle.ut_run.proofs.LineLemmas.{line_known}
use Rattle.ut_app.proofs.HearLemmas.{hears_statement, hears_nothing, hears_stranger, hears_bad, heard_faults, hears_lacking}
use Rattle.ut_app.proofs.hear.hear.Goals as goal

pub returns-in-Ok-Comment-clause-hears : goal.returns-in-Ok-Comment-clause-hears
returns-in-Ok-Comment-clause-hears g c = hears_nothing _ _ _ _ (g.met.D.Disk.only_now c.args.engine.now.disk) (sym c.in-Ok-Comment.ensures.says ∙ c.in-Ok-Comment.field-0-is) refl

pub returns-in-Ok-Stranger-clause-hears : goal.returns-in-Ok-Stranger-clause-hears
returns-in-Ok-Stranger-clause-hears g c = hears_stranger _ _ _ _ (g.met.D.Disk.only_now c.args.engine.now.disk) (sym c.in-Ok-Stranger.ensures.says ∙ c.in-Ok-Stranger.field-0-is) refl

pub returns-in-Ok-Bad-clause-hears : goal.returns-in-Ok-Bad-clause-hears
returns-in-Ok-Bad-clause-hears g c = hears_bad _ _ _ _ _ (g.met.D.Disk.only_now c.args.engine.now.disk) (sym c.in-Ok-Bad.ensures.says ∙ c.in-Ok-Bad.field-0-is) refl

pub answer-requires-clause-seat : goal.answer-requires-clause-seat
answer-requires-clause-seat g c = (subst (λ (l : Parsed). IsKnown l) (sym c.in-Ok-Good.ensures.says ∙ c.in-Ok-Good.field-0-is) (line_known c.args.line.now)).0

pub answer-requires-clause-suits : goal.answer-requires-clause-suits
answer-requires-clause-suits g c = (subst (λ (l : Parsed). IsKnown l) (sym c.in-Ok-Good.ensures.says ∙ c.in-Ok-Good.field-0-is) (line_known c.args.line.now)).1

pub answer-requires-clause-spelled : goal.answer-requires-clause-spelled
answer-requires-clause-spelled g c = (subst (λ (l : Parsed). IsKnown l) (sym c.in-Ok-Good.ensures.says ∙ c.in-Ok-Good.field-0-is) (line_known c.args.line.now)).2

pub returns-in-Ok-Good-clause-hears : goal.returns-in-Ok-Good-clause-hears
returns-in-Ok-Good-clause-hears g c =
    hears_statement _ _ _ c.in-Ok-Good.session c.in-Ok-Good.st c.answer.result _ _ _ (sym c.in-Ok-Good.ensures.says ∙ c.in-Ok-Good.field-0-is) c.answer.ensures.serves c.heard_of.ensures

pub returns-in-Ok-Good-clause-cause : goal.returns-in-Ok-Good-clause-cause
returns-in-Ok-Good-clause-cause g c = heard_faults _ _ c.in-Ok-Good.session c.in-Ok-Good.st c.answer.result _ _ _ c.answer.ensures.serves c.heard_of.ensures

pub returns-in-Err-clause-hears : goal.returns-in-Err-clause-hears
returns-in-Err-clause-hears g c = hears_lacking _ _ _ c.in-Err._lacks.session _ (g.met.D.Disk.only_now c.args.engine.now.disk) c.in-Err.ensures.memory refl
