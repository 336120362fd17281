use Rattle.std.proofs.Common.{◌≡◌, ◌+◌, ◌≤◌, ◌++◌, vec_len, vec_capacity}
use Rattle.std.specs.Prelude.{All, MatchResult, map, reverse}
use Rattle.ut_crew.specs.Leaving.{HasLeft}
use Rattle.ut_crew.specs.Starting.{of_either}
use Rattle.ut_crew.proofs.crew.join_all.Given as goal

abbrev pub invariant-loop-one : goal.invariant-loop-one
invariant-loop-one g l =
    All (λ b. MatchResult b (λ h. (h.0.promise.floor.now.gate ≡ l.floor.gate) × (h.0.promise.part.value ≡ h.1.value)) (λ d. (d.pass.gate ≡ l.floor.gate) × HasLeft g.E.Held.book g.E.Held.job (g.E.Held.stands_on g.E.Held.ground) g.M.Act.relates g.M.End.Act.asks g.M.End.Act.relates g.M.Build.unbuilt g.A.Act.relates g.S.Act.relates d.part.value d.pass)) l.begun.items
    × All (λ d. (d.pass.gate ≡ l.floor.gate) × HasLeft g.E.Held.book g.E.Held.job (g.E.Held.stands_on g.E.Held.ground) g.M.Act.relates g.M.End.Act.asks g.M.End.Act.relates g.M.Build.unbuilt g.A.Act.relates g.S.Act.relates d.part.value d.pass) l.done.items
    × (vec_len l.done + vec_len l.begun ≤ vec_capacity l.done)
    × (vec_len l.done + vec_len l.begun ≡ vec_len l.fn.begun)
    × (map (λ d. d.part.value) l.done.items ++ map (of_either (λ h. h.1.value) (λ d. d.part.value)) (reverse l.begun.items) ≡ map (of_either (λ h. h.1.value) (λ d. d.part.value)) (reverse l.fn.begun.items))

abbrev pub decreases-loop-one : goal.decreases-loop-one
decreases-loop-one g l = goal.left-loop-one g l
