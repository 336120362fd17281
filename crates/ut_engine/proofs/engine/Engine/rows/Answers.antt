use Rattle.std.proofs.Common.{◌≡◌, false, sym, subst}
use Rattle.ut_engine.specs.Lent.{Lent}
use Rattle.ut_engine.proofs.engine.Engine.rows.Goals as goal

pub rows-requires : goal.rows-requires
rows-requires g c =
    let runs = c.self.invariant (subst (λ (e : Lent g.row.D.Denot). e.store.down ≡ false) (sym c.self.view_is) c.requires.up) in
    record { plain = runs.0; stands = runs.1.stands }
