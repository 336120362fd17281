-- Counting over lists, and how a word keeps a count.
use Rattle.std.specs.Prelude.{ℕ, ◌+◌, ◌%◌, ◌==◌, Bool, true, false, List, [], ◌∷◌}

-- f of each, added up
abbrev pub total : {A : Type 0} → (A → ℕ) → List A → ℕ
total f [] = 0
total f (x ∷ xs) = f x + total f xs

-- 1 where it is true
abbrev pub one_if : Bool → ℕ
one_if true = 1
one_if false = 0

-- how often p stands in the list
abbrev pub times : ℕ → List ℕ → ℕ
times p xs = total (λ x. one_if (x == p)) xs

-- a count as a word of 64 bits keeps it
abbrev pub word_of : ℕ → ℕ
word_of n = n % 18446744073709551616
