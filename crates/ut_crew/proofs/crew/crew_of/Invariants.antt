use Rattle.std.proofs.Common.{◌≡◌, ◌+◌, ◌≤◌, ◌∷◌, ◌++◌, length, vec_len, vec_capacity}
use Rattle.std.specs.Prelude.{All, map, reverse}
use Rattle.ut_crew.specs.declared.role.Role.TheVariants.{Session, Merger, Saver}
use Rattle.ut_crew.specs.Starting.{left_of}
use Rattle.ut_crew.proofs.crew.crew_of.Given as goal

abbrev pub invariant-loop-pass : goal.invariant-loop-pass
invariant-loop-pass g l =
    All (λ p. p.gate ≡ l.gate) l.passes
    × All (λ m. m.pass.gate ≡ l.gate) l.members.items
    × (length l.passes ≡ length (left_of l.parts.saver l.parts.merger l.parts.sessions.items))
    × (vec_len l.members + length l.passes ≤ vec_capacity l.members)
    × (vec_len l.members + length l.passes ≡ vec_len l.fn.sessions + 2)
    × (map (λ m. m.role) l.members.items ++ left_of l.parts.saver l.parts.merger l.parts.sessions.items ≡ Saver l.fn.saver ∷ Merger l.fn.merger ∷ map Session (reverse l.fn.sessions.items))

abbrev pub decreases-loop-pass : goal.decreases-loop-pass
decreases-loop-pass g l = length l.passes
