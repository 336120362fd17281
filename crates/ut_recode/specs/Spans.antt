-- Parts of lists, and rows divided evenly into shares.
use Rattle.std.specs.Prelude.{ℕ, ◌+◌, ◌-◌, ◌*◌, ◌/◌, List, length, take, drop}

-- the part from one place to another
abbrev pub span : {X : Type 0} → ℕ → ℕ → List X → List X
span from to xs = take (to - from) (drop from xs)

-- share k of a list: each share ends where the next one begins, and no two differ by more than one
abbrev pub share_at : {X : Type 0} → ℕ → ℕ → List X → List X
share_at k pieces xs = span (k * length xs / pieces) ((k + 1) * length xs / pieces) xs
