use Rattle.std.proofs.Common.{◌≡◌, ℕ, false, Result, sym, ap, subst}
use Rattle.std.specs.Prelude.{IfOk}
use Rattle.ut_outside.specs.Faults.{Rose}
use Rattle.ut_plain.specs.declared.statement.Statement.TheVariants as statements
use Rattle.ut_engine.specs.declared.error.SaveError.{SaveError}
use Rattle.ut_engine.specs.Lent.{Lent}
use Rattle.ut_engine.specs.Savepoints.{save_reply}
use Rattle.ut_engine.specs.Saves.{HasPlanned}
use Rattle.ut_engine.specs.Serves.{Serves}
use Rattle.ut_engine.proofs.AnswerLemmas.{begin_down}
use Rattle.ut_engine.proofs.LentLemmas.{goes_on}
use Rattle.ut_engine.proofs.engine.Engine.save_begin.Goals as goal

pub save_begin-requires : goal.save_begin-requires
save_begin-requires g c = record { runs = c.self.invariant (subst (λ (e : Lent g.row.D.Denot). e.store.down ≡ false) (sym c.self.view_is) c.requires.up) }

pub invariant_of-self : goal.invariant_of-self
invariant_of-self g c =
    let runs = c.self.invariant (subst (λ (e : Lent g.row.D.Denot). e.store.down ≡ false) (sym c.self.view_is) c.requires.up) in
    goes_on c.self.inside.store c.save_begin.new.self (g.D.Disk.view c.self.inside.disk.now) (g.D.Disk.view c.save_begin.new.disk) 0 statements.SaveBegin (save_reply c.save_begin.result) runs.0 runs.1 (c.save_begin.ensures.serves 0)

pub returns-clause-serves : goal.returns-clause-serves
returns-clause-serves g c =
    subst (λ (x : Lent g.row.D.Denot). Serves x.store (g.D.Disk.view x.disk) 0 statements.SaveBegin (save_reply c.save_begin.result) c.save_begin.new.self (g.D.Disk.view c.save_begin.new.disk)) c.self.view_is (c.save_begin.ensures.serves 0)

pub returns-clause-down : goal.returns-clause-down
returns-clause-down g c =
    let runs = c.self.invariant (subst (λ (e : Lent g.row.D.Denot). e.store.down ≡ false) (sym c.self.view_is) c.requires.up) in
    begin_down c.self.inside.store c.save_begin.new.self (g.D.Disk.view c.self.inside.disk.now) (g.D.Disk.view c.save_begin.new.disk) 0 statements.SaveBegin c.save_begin.result runs.0 runs.1 (c.save_begin.ensures.serves 0)

pub returns-clause-cause : goal.returns-clause-cause
returns-clause-cause g c is =
    let w = g.D.Disk.view c.save_begin.new.disk in
    subst (λ (x : Lent g.row.D.Denot). Rose (g.D.Disk.view x.disk).faults w.faults) c.self.view_is ((c.save_begin.ensures.serves 0).cause (ap (λ (r : Result ℕ SaveError). save_reply r) is))

pub returns-clause-planned : goal.returns-clause-planned
returns-clause-planned g c =
    subst (λ (x : Lent g.row.D.Denot). IfOk c.save_begin.result (HasPlanned x.store c.save_begin.new.self.saving)) c.self.view_is c.save_begin.ensures.planned
