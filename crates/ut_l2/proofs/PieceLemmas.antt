-- Columns that got pieces of rows.
use Rattle.std.proofs.Common.{◌≡◌, ℕ, ◌<◌, List, [], ◌++◌, length, take, get_or, ap, ◌∙◌, arith}
use Rattle.std.proofs.lemmas.List.{ext_get_or, take_at}

-- what a column had before it grew
pub cut-grown : (n : ℕ) (old more now new : List (List ℕ)) → now ≡ old ++ more → length old ≡ n → new ≡ take n now → new ≡ old
cut-grown n old more now new e same cut = cut ∙ ap (take n) e ∙ take_at old more n same

-- columns that are the same one by one
pub same-columns : (old new : List (List (List ℕ))) → length new ≡ length old → ((j : ℕ) → j < length old → get_or new j [] ≡ get_or old j []) → new ≡ old
same-columns old new n each = ext_get_or [] new old n (λ j lt. each j (omega (arith, lt, n)))
