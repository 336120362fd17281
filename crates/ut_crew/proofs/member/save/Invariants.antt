use Rattle.std.proofs.Common.{◌≡◌, ℕ}
use Rattle.ut_crew.specs.Leaving.{Acts, GoesOn}
use Rattle.ut_crew.specs.declared.role.Kept.TheVariants.{Over}
use Rattle.ut_crew.proofs.member.save.Given as goal

abbrev pub invariant-loop : goal.invariant-loop
invariant-loop g l =
    (l.pass.gate ≡ l.floor.gate)
    × ((n : ℕ) × GoesOn (Acts g.E.Held.book g.E.Held.job (g.E.Held.stands_on g.E.Held.ground) g.S.Act.relates) Over n l.fn.saver l.saver l.pass)
