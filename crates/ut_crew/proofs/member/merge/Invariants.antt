use Rattle.std.proofs.Common.{◌≡◌, ℕ}
use Rattle.ut_crew.specs.Leaving.{Merges, GoesOn}
use Rattle.ut_crew.specs.declared.role.Kept.TheVariants.{Over}
use Rattle.ut_crew.proofs.member.merge.Given as goal

abbrev pub invariant-loop : goal.invariant-loop
invariant-loop g l =
    (l.pass.gate ≡ l.floor.gate)
    × ((n : ℕ) × GoesOn (Merges g.E.Held.book g.E.Held.job (g.E.Held.stands_on g.E.Held.ground) g.M.Act.relates g.M.End.Act.asks g.M.End.Act.relates) Over n l.fn.merger l.merger l.pass)
