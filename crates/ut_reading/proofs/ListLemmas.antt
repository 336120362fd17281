-- Facts of every element, by place and by recursion.
use Rattle.std.proofs.Common.{◌≡◌, zero, suc, ◌<◌, Bool, true, false, ◌&&◌, List, [], ◌∷◌, ◌++◌, length, take, drop, ◌-◌, ◌≤◌, IsTrue, refl, sym, subst, arith, All, slice_index_or}
use Rattle.std.specs.List.{AllByRecursion, AllPairs, list_all}
use Rattle.std.proofs.lemmas.List.{get_or_append_left, length-append, take_all}

pub all_places : {X : Type 0} (P : X → Type 0) (xs : List X) → AllByRecursion P xs → All P xs
all_places P [] all k d lt = absurd (omega (arith, lt))
all_places P (x ∷ xs) all zero d lt = all.0
all_places P (x ∷ xs) all (suc k) d lt = all_places P xs all.1 k d (omega (arith, lt))

pub all_each : {X : Type 0} (P : X → Type 0) (xs : List X) → All P xs → AllByRecursion P xs
all_each P [] all = tt
all_each P (x ∷ xs) all = (all zero x (omega arith), all_each P xs (λ k d lt. all (suc k) d (omega (arith, lt))))

pub all_map : {X : Type 0} (P Q : X → Type 0) (xs : List X) → ((x : X) → P x → Q x) → AllByRecursion P xs → AllByRecursion Q xs
all_map P Q [] f all = tt
all_map P Q (x ∷ xs) f all = (f x all.0, all_map P Q xs f all.1)

pub all_first : {X : Type 0} (P : X → Type 0) (xs ys : List X) → AllByRecursion P (xs ++ ys) → AllByRecursion P xs
all_first P [] ys all = tt
all_first P (x ∷ xs) ys all = (all.0, all_first P xs ys all.1)

pub all_last : {X : Type 0} (P : X → Type 0) (xs ys : List X) → AllByRecursion P (xs ++ ys) → AllByRecursion P ys
all_last P [] ys all = all
all_last P (x ∷ xs) ys all = all_last P xs ys all.1

pub all_both : {X : Type 0} (P : X → Type 0) (xs ys : List X) → AllByRecursion P xs → AllByRecursion P ys → AllByRecursion P (xs ++ ys)
all_both P [] ys a b = b
all_both P (x ∷ xs) ys a b = (a.0, all_both P xs ys a.1 b)

pub all_test : {X : Type 0} (p : X → Bool) (xs : List X) → IsTrue (list_all p xs) → AllByRecursion (λ x. IsTrue (p x)) xs
all_test p [] is = tt
all_test p (x ∷ xs) is = by (p x) (list_all p xs) refl is (λ (rest : IsTrue (list_all p xs)). all_test p xs rest)
  where
    by : (a b : Bool) → p x ≡ a → (a && b) ≡ true → (b ≡ true → AllByRecursion (λ x. IsTrue (p x)) xs) → IsTrue (p x) × AllByRecursion (λ x. IsTrue (p x)) xs
    by true b here is rest = (here, rest is)
    by false b here is rest = cc

-- the first of some, and the others
pub first_and_others : {X : Type 0} (xs : List X) (x : X) → 1 ≤ length xs → x ≡ slice_index_or xs 0 x → xs ≡ x ∷ take (length xs - 1) (drop 1 xs)
first_and_others [] x some is = absurd (omega (arith, some))
first_and_others (y ∷ xs) x some is = λ i. sym is i ∷ sym (take_all (length (y ∷ xs) - 1) xs (omega arith)) i

-- ---- of the first elements

pub first_pairs : {X : Type 0} (R : X → X → Type 0) (xs ys : List X) → AllPairs R (xs ++ ys) → AllPairs R xs
first_pairs R xs ys all i j d lt within =
    let long : j < length (xs ++ ys) = omega (arith, within, length-append xs ys) in
    let before : i < length xs = omega (arith, lt, within) in
    subst (λ a. R a (slice_index_or xs j d)) (get_or_append_left xs ys d i before) (subst (λ b. R (slice_index_or (xs ++ ys) i d) b) (get_or_append_left xs ys d j within) (all i j d lt long))
