use Rattle.std.proofs.Common.{◌≡◌, ◌+◌, ◌≤◌, ◌++◌, vec_len, vec_capacity}
use Rattle.std.specs.Prelude.{All, map, reverse}
use Rattle.ut_crew.specs.Leaving.{HasLeft}
use Rattle.ut_crew.proofs.crew.run_all.Given as goal

abbrev pub invariant-loop-member : goal.invariant-loop-member
invariant-loop-member g l =
    All (λ m. m.pass.gate ≡ l.floor.gate) l.members.items
    × All (λ d. (d.pass.gate ≡ l.floor.gate) × HasLeft g.E.Held.book g.E.Held.job (g.E.Held.stands_on g.E.Held.ground) g.M.Act.relates g.M.End.Act.asks g.M.End.Act.relates g.M.Build.unbuilt g.A.Act.relates g.S.Act.relates d.part.value d.pass) l.done.items
    × (vec_len l.done + vec_len l.members ≤ vec_capacity l.done)
    × (vec_len l.done + vec_len l.members ≡ vec_len l.fn.members)
    × (map (λ d. d.part.value) l.done.items ++ map (λ m. m.role) (reverse l.members.items) ≡ map (λ m. m.role) (reverse l.fn.members.items))

abbrev pub decreases-loop-member : goal.decreases-loop-member
decreases-loop-member g l = goal.left-loop-member g l
