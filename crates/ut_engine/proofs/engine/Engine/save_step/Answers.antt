use Rattle.std.proofs.Common.{◌≡◌, false, Result, sym, ap, subst}
use Rattle.ut_outside.specs.Faults.{Rose}
use Rattle.ut_plain.specs.declared.statement.Statement.TheVariants as statements
use Rattle.ut_engine.specs.declared.error.PhaseError.{PhaseError}
use Rattle.ut_engine.specs.Lent.{Lent}
use Rattle.ut_engine.specs.Savepoints.{phase_reply}
use Rattle.ut_engine.specs.Serves.{Serves}
use Rattle.ut_engine.proofs.AnswerLemmas.{phase_down}
use Rattle.ut_engine.proofs.LentLemmas.{goes_on}
use Rattle.ut_engine.proofs.engine.Engine.save_step.Goals as goal

pub save_step-requires : goal.save_step-requires
save_step-requires g c = record { runs = c.self.invariant (subst (λ (e : Lent g.row.D.Denot). e.store.down ≡ false) (sym c.self.view_is) c.requires.up) }

pub invariant_of-self : goal.invariant_of-self
invariant_of-self g c =
    let runs = c.self.invariant (subst (λ (e : Lent g.row.D.Denot). e.store.down ≡ false) (sym c.self.view_is) c.requires.up) in
    goes_on c.self.inside.store c.save_step.new.self (g.D.Disk.view c.self.inside.disk.now) (g.D.Disk.view c.save_step.new.disk) 0 (statements.SaveStep 1) (phase_reply c.save_step.result c.save_step.new.self.saving) runs.0 runs.1 (c.save_step.ensures.serves 0)

pub returns-clause-serves : goal.returns-clause-serves
returns-clause-serves g c =
    subst (λ (x : Lent g.row.D.Denot). Serves x.store (g.D.Disk.view x.disk) 0 (statements.SaveStep 1) (phase_reply c.save_step.result c.save_step.new.self.saving) c.save_step.new.self (g.D.Disk.view c.save_step.new.disk)) c.self.view_is (c.save_step.ensures.serves 0)

pub returns-clause-down : goal.returns-clause-down
returns-clause-down g c =
    let runs = c.self.invariant (subst (λ (e : Lent g.row.D.Denot). e.store.down ≡ false) (sym c.self.view_is) c.requires.up) in
    phase_down c.self.inside.store c.save_step.new.self (g.D.Disk.view c.self.inside.disk.now) (g.D.Disk.view c.save_step.new.disk) 0 (statements.SaveStep 1) c.save_step.result c.save_step.new.self.saving runs.0 runs.1 (c.save_step.ensures.serves 0)

pub returns-clause-cause : goal.returns-clause-cause
returns-clause-cause g c is =
    let w = g.D.Disk.view c.save_step.new.disk in
    subst (λ (x : Lent g.row.D.Denot). Rose (g.D.Disk.view x.disk).faults w.faults) c.self.view_is ((c.save_step.ensures.serves 0).cause (ap (λ (r : Result (Unit {0}) PhaseError). phase_reply r c.save_step.new.self.saving) is))
