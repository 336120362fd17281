-- What a hasher is fed of a key.
use Rattle.std.specs.Prelude.{◌≡◌, ℕ, List, [], ◌∷◌, IsTrue}
use Rattle.std.specs.Cmp.Lexicographic.{bytes_decides}
use Rattle.std.proofs.Common.{ap}
use Rattle.ut_unsorted.specs.FirstSeen.{key_eq}

-- all its bytes at once
abbrev pub one_write : List ℕ → List (List ℕ)
one_write k = k ∷ []

-- equal keys are fed alike
pub same_write : (a b : List ℕ) → IsTrue (key_eq a b) → one_write a ≡ one_write b
same_write a b h = ap one_write ((bytes_decides a b).0 h)
