-- A filter keeps no more than there is.
use Rattle.std.proofs.Common.{◌≡◌, ℕ, zero, suc, ◌+◌, ◌<◌, ◌≤◌, ◌++◌, drop, get_or, refl, ap, ◌∙◌, Bool, true, false, cond, List, [], ◌∷◌, filter, length, arith}
use Rattle.std.specs.List.{flat_map}

pub length-filter_le : {X : Type 0} (test : X → Bool) (xs : List X) → length (filter test xs) ≤ length xs
length-filter_le test [] = omega arith
length-filter_le {X} test (x ∷ xs) =
    let rest : length (filter test xs) ≤ length xs = length-filter_le test xs in
    elim (test x) as (λ b. length (cond b (x ∷ filter test xs) (filter test xs)) ≤ length (x ∷ xs)) [ true ↦ omega arith | false ↦ omega arith ]

-- what is made of each element so far, and of those that are left
pub flat_step : {X A : Type 0} (f : X → List A) (xs : List X) (i : ℕ) (x : X) (done more all : List A) → i < length xs → x ≡ get_or xs i x → more ≡ f x → done ++ flat_map f (drop i xs) ≡ all → (done ++ more) ++ flat_map f (drop (i + 1) xs) ≡ all
flat_step f [] i x done more all h e m k = absurd (omega arith)
flat_step f (y ∷ ys) zero x done more all h e m k = joined_lists done more (flat_map f ys) ∙ ap (λ zs. done ++ (zs ++ flat_map f ys)) (m ∙ ap f e) ∙ k
  where
    joined_lists : {A : Type 0} (xs ys zs : List A) → (xs ++ ys) ++ zs ≡ xs ++ (ys ++ zs)
    joined_lists [] ys zs = refl
    joined_lists (x ∷ xs) ys zs = ap (λ ws. x ∷ ws) (joined_lists xs ys zs)
flat_step f (y ∷ ys) (suc i) x done more all h e m k = let next : suc i + 1 ≡ suc (i + 1) = omega arith in ap (λ j. (done ++ more) ++ flat_map f (drop j (y ∷ ys))) next ∙ flat_step f ys i x done more all (omega arith) e m k

pub flat_more : {X A : Type 0} (f : X → List A) (xs : List X) (i : ℕ) (x : X) (done more now all : List A) → i < length xs → x ≡ get_or xs i x → more ≡ f x → now ≡ done ++ more → done ++ flat_map f (drop i xs) ≡ all → now ++ flat_map f (drop (i + 1) xs) ≡ all
flat_more f xs i x done more now all h e m n k = ap (λ ys. ys ++ flat_map f (drop (i + 1) xs)) n ∙ flat_step f xs i x done more all h e m k
