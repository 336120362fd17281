use Rattle.std.proofs.Common.{◌≡◌, ℕ, false, Result, sym, ap, subst}
use Rattle.ut_outside.specs.Faults.{Rose}
use Rattle.ut_plain.specs.declared.statement.Statement.TheVariants as statements
use Rattle.ut_engine.specs.declared.error.PhaseError.{PhaseError}
use Rattle.ut_engine.specs.Lent.{Lent}
use Rattle.ut_engine.specs.Savepoints.{flip_reply}
use Rattle.ut_engine.specs.Serves.{Serves}
use Rattle.ut_engine.proofs.AnswerLemmas.{flip_down}
use Rattle.ut_engine.proofs.LentLemmas.{goes_on}
use Rattle.ut_engine.proofs.engine.Engine.save_flip.Goals as goal

pub save_flip-requires : goal.save_flip-requires
save_flip-requires g c = record { runs = c.self.invariant (subst (λ (e : Lent g.row.D.Denot). e.store.down ≡ false) (sym c.self.view_is) c.requires.up) }

pub invariant_of-self : goal.invariant_of-self
invariant_of-self g c =
    let runs = c.self.invariant (subst (λ (e : Lent g.row.D.Denot). e.store.down ≡ false) (sym c.self.view_is) c.requires.up) in
    goes_on c.self.inside.store c.save_flip.new.self (g.D.Disk.view c.self.inside.disk.now) (g.D.Disk.view c.save_flip.new.disk) 0 statements.SaveFlip (flip_reply c.save_flip.result) runs.0 runs.1 (c.save_flip.ensures.serves 0)

pub returns-clause-serves : goal.returns-clause-serves
returns-clause-serves g c =
    subst (λ (x : Lent g.row.D.Denot). Serves x.store (g.D.Disk.view x.disk) 0 statements.SaveFlip (flip_reply c.save_flip.result) c.save_flip.new.self (g.D.Disk.view c.save_flip.new.disk)) c.self.view_is (c.save_flip.ensures.serves 0)

pub returns-clause-down : goal.returns-clause-down
returns-clause-down g c =
    let runs = c.self.invariant (subst (λ (e : Lent g.row.D.Denot). e.store.down ≡ false) (sym c.self.view_is) c.requires.up) in
    flip_down c.self.inside.store c.save_flip.new.self (g.D.Disk.view c.self.inside.disk.now) (g.D.Disk.view c.save_flip.new.disk) 0 statements.SaveFlip c.save_flip.result runs.0 runs.1 (c.save_flip.ensures.serves 0)

pub returns-clause-cause : goal.returns-clause-cause
returns-clause-cause g c is =
    let w = g.D.Disk.view c.save_flip.new.disk in
    subst (λ (x : Lent g.row.D.Denot). Rose (g.D.Disk.view x.disk).faults w.faults) c.self.view_is ((c.save_flip.ensures.serves 0).cause (ap (λ (r : Result ℕ PhaseError). flip_reply r) is))
