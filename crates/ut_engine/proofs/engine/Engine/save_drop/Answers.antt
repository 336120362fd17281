use Rattle.std.proofs.Common.{◌≡◌, false, sym, subst}
use Rattle.ut_plain.specs.declared.statement.Statement.TheVariants as statements
use Rattle.ut_engine.specs.Lent.{Lent}
use Rattle.ut_engine.specs.Savepoints.{phase_reply}
use Rattle.ut_engine.specs.Serves.{Serves}
use Rattle.ut_engine.proofs.AnswerLemmas.{drop_is_up}
use Rattle.ut_engine.proofs.LentLemmas.{goes_on}
use Rattle.ut_engine.proofs.engine.Engine.save_drop.Goals as goal

pub save_drop-requires : goal.save_drop-requires
save_drop-requires g c = record { runs = c.self.invariant (subst (λ (e : Lent g.row.D.Denot). e.store.down ≡ false) (sym c.self.view_is) c.requires.up) }

pub invariant_of-self : goal.invariant_of-self
invariant_of-self g c =
    let runs = c.self.invariant (subst (λ (e : Lent g.row.D.Denot). e.store.down ≡ false) (sym c.self.view_is) c.requires.up) in
    goes_on c.self.inside.store c.save_drop.new.self (g.D.Disk.view c.self.inside.disk.now) (g.D.Disk.view c.self.inside.disk.now) 0 statements.SaveDrop (phase_reply c.save_drop.result c.save_drop.new.self.saving) runs.0 runs.1 (c.save_drop.ensures.serves 0)

pub returns-clause-serves : goal.returns-clause-serves
returns-clause-serves g c =
    subst (λ (x : Lent g.row.D.Denot). Serves x.store (g.D.Disk.view x.disk) 0 statements.SaveDrop (phase_reply c.save_drop.result c.save_drop.new.self.saving) c.save_drop.new.self (g.D.Disk.view c.self.inside.disk.now)) c.self.view_is (c.save_drop.ensures.serves 0)

pub returns-clause-up : goal.returns-clause-up
returns-clause-up g c =
    let runs = c.self.invariant (subst (λ (e : Lent g.row.D.Denot). e.store.down ≡ false) (sym c.self.view_is) c.requires.up) in
    drop_is_up c.self.inside.store c.save_drop.new.self (g.D.Disk.view c.self.inside.disk.now) (g.D.Disk.view c.self.inside.disk.now) 0 (phase_reply c.save_drop.result c.save_drop.new.self.saving) runs.0 runs.1 (c.save_drop.ensures.serves 0)
