-- What stands in a list to which others were put.
use Rattle.std.proofs.Common.{◌≡◌, ℕ, ◌+◌, ◌<◌, List, ◌∷◌, ◌++◌, length, drop, get_or, sym, ◌∙◌, ap, append_assoc, arith}
use Rattle.std.specs.List.{flat_map, sum_by}
use Rattle.std.proofs.lemmas.List.{drop_more}
use Rattle.std.proofs.lemmas.List.Sums.{sum_by-cons}

-- four behind one another
pub four_put : {X : Type 0} (start a b c d one two three four : List X) → one ≡ start ++ a → two ≡ one ++ b → three ≡ two ++ c → four ≡ three ++ d → four ≡ start ++ (a ++ (b ++ (c ++ d)))
four_put {X} start a b c d one two three four is_one is_two is_three is_four =
    is_four
    ∙ ap (λ (l : List X). l ++ d) (is_three ∙ ap (λ (l : List X). l ++ c) (is_two ∙ ap (λ (l : List X). l ++ b) is_one))
    ∙ append_assoc ((start ++ a) ++ b) c d
    ∙ append_assoc (start ++ a) b (c ++ d)
    ∙ append_assoc start a (b ++ (c ++ d))

-- the first of those that are left
pub left_more : {X : Type 0} (xs : List X) (i : ℕ) (x : X) → i < length xs → x ≡ get_or xs i x → drop i xs ≡ x ∷ drop (i + 1) xs
left_more xs i x lt is = drop_more xs i x lt ∙ ap (λ y. y ∷ drop (i + 1) xs) (sym is)

-- one more was put, and the others are left
pub put_more : {X : Type 0} (piece : X → List ℕ) (xs : List X) (i : ℕ) (x : X) (old new all : List ℕ) → drop i xs ≡ x ∷ drop (i + 1) xs → new ≡ old ++ piece x → old ++ flat_map piece (drop i xs) ≡ all
    → new ++ flat_map piece (drop (i + 1) xs) ≡ all
put_more piece xs i x old new all here is h =
    ap (λ (l : List ℕ). l ++ flat_map piece (drop (i + 1) xs)) is
    ∙ append_assoc old (piece x) (flat_map piece (drop (i + 1) xs))
    ∙ ap (λ l. old ++ flat_map piece l) (sym here)
    ∙ h

pub length_more : {X : Type 0} (len : X → ℕ) (xs : List X) (i : ℕ) (x : X) (old new all : ℕ) → drop i xs ≡ x ∷ drop (i + 1) xs → new ≡ old + len x → old + sum_by len (drop i xs) ≡ all → new + sum_by len (drop (i + 1) xs) ≡ all
length_more len xs i x old new all here is h =
    let sum : sum_by len (drop i xs) ≡ len x + sum_by len (drop (i + 1) xs) = ap (sum_by len) here ∙ sum_by-cons len x (drop (i + 1) xs) in omega (arith, is, h, sum)
