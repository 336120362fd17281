-- Parts of lists, by their places.
use Rattle.std.proofs.Common.{◌≡◌, ℕ, suc, ◌+◌, ◌-◌, ◌<◌, ◌≤◌, List, ◌∷◌, length, take, drop, get_or, ◌∙◌, ap, arith}
use Rattle.std.proofs.lemmas.List.{length-take, length-drop, drop_more, get_or-take, get_or-drop}
use Rattle.ut_recode.specs.Spans.{span}

pub length-span : {X : Type 0} (from to : ℕ) (xs : List X) → to ≤ length xs → length (span from to xs) ≡ to - from
length-span from to xs h = omega (arith, length-take (to - from) (drop from xs), length-drop from xs)

take-suc : {X : Type 0} (n : ℕ) (x : X) (xs : List X) → take (n + 1) (x ∷ xs) ≡ x ∷ take n xs
take-suc n x xs = let e : n + 1 ≡ suc n = omega arith in ap (λ (k : ℕ). take k (x ∷ xs)) e

-- the first of a part
pub span-more : {X : Type 0} (from to : ℕ) (xs : List X) (d : X) → from < to → to ≤ length xs → span from to xs ≡ get_or xs from d ∷ span (from + 1) to xs
span-more from to xs d lt le =
    let size : to - from ≡ to - (from + 1) + 1 = omega arith in
    ap (λ (k : ℕ). take k (drop from xs)) size ∙ ap (λ l. take (to - (from + 1) + 1) l) (drop_more xs from d (omega arith))
    ∙ take-suc (to - (from + 1)) (get_or xs from d) (drop (from + 1) xs)

pub get_or-span : {X : Type 0} (from to : ℕ) (xs : List X) (i : ℕ) (d : X) → i < to - from → get_or (span from to xs) i d ≡ get_or xs (from + i) d
get_or-span from to xs i d lt = get_or-take (to - from) (drop from xs) i d lt ∙ get_or-drop from xs i d
