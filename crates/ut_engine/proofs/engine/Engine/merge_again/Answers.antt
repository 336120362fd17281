use Rattle.std.proofs.Common.{◌≡◌, false, sym, subst}
use Rattle.ut_engine.specs.Lent.{Lent}
use Rattle.ut_engine.proofs.engine.Engine.merge_again.Goals as goal

pub merge_again-requires : goal.merge_again-requires
merge_again-requires g c =
    let runs = c.self.invariant (subst (λ (e : Lent g.row.D.Denot). e.store.down ≡ false) (sym c.self.view_is) c.requires.up) in
    record { plain = runs.0; stands = runs.1.stands }
