use Rattle.std.proofs.Common.{refl, sym, ◌∙◌, subst, IsTrue}
use Rattle.ut_plain.specs.declared.statement.Statement.{Statement}
use Rattle.ut_plain.specs.Spelled.{is_spelled}
use Rattle.ut_store.specs.Standing.{suits_session}
use Rattle.ut_engine.specs.Serves.{Serves}
use Rattle.ut_engine.proofs.ServedLemmas.{wants_memory}
use Rattle.ut_engine.proofs.engine.Engine.statement.Goals as goal

pub answer-requires-clause-suits : goal.answer-requires-clause-suits
answer-requires-clause-suits g c = subst (λ (st : Statement). IsTrue (suits_session c.args.session st)) (sym c.in-Ok.ensures.copy) c.requires.suits

pub answer-requires-clause-spelled : goal.answer-requires-clause-spelled
answer-requires-clause-spelled g c = subst (λ (st : Statement). IsTrue (is_spelled st)) (sym c.in-Ok.ensures.copy) c.requires.spelled

pub returns-in-Ok-clause-serves : goal.returns-in-Ok-clause-serves
returns-in-Ok-clause-serves g c =
    subst (λ (st : Statement). Serves c.args.self.now.store (g.D.Disk.view c.args.self.now.disk) c.args.session st c.answer.result c.answer.new.self.store (g.D.Disk.view c.answer.new.self.disk)) c.in-Ok.ensures.copy c.answer.ensures.serves

pub returns-in-Ok-clause-dropped : goal.returns-in-Ok-clause-dropped
returns-in-Ok-clause-dropped g c is = c.answer.ensures.dropped (c.in-Ok.ensures.copy ∙ is)

pub returns-in-Err-clause-serves : goal.returns-in-Err-clause-serves
returns-in-Err-clause-serves g c =
    wants_memory c.args.self.now.store (g.D.Disk.view c.args.self.now.disk) c.args.session c.args.st.now (g.met.D.Disk.only_now c.args.self.now.disk) (c.in-Err.ensures.room refl)

pub returns-in-Ok-clause-planned : goal.returns-in-Ok-clause-planned
returns-in-Ok-clause-planned g c is pages told = c.answer.ensures.planned (c.in-Ok.ensures.copy ∙ is) pages told

pub returns-in-Err-clause-planned : goal.returns-in-Err-clause-planned
returns-in-Err-clause-planned g c is pages told = absurd cc
