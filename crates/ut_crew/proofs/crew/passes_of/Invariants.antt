use Rattle.std.proofs.Common.{◌≡◌, ◌+◌, ◌≤◌, ◌++◌, vec_len, vec_capacity}
use Rattle.std.specs.Prelude.{map, reverse}
use Rattle.ut_crew.proofs.crew.passes_of.Given as goal

abbrev pub invariant-loop-one : goal.invariant-loop-one
invariant-loop-one g l =
    (vec_len l.back + vec_len l.done ≤ vec_capacity l.back)
    × (l.back.items ++ map (λ d. d.pass) (reverse l.done.items) ≡ map (λ d. d.pass) (reverse l.fn.done.items))

abbrev pub decreases-loop-one : goal.decreases-loop-one
decreases-loop-one g l = goal.left-loop-one g l
