-- Lists that are mapped and filtered.
use Rattle.std.proofs.Common.{◌≡◌, ℕ, zero, suc, ◌<◌, ◌≤◌, Bool, true, false, cond, List, [], ◌∷◌, length, map, filter, take, get_or, Some, refl, sym, ◌∙◌, ap, arith}
use Rattle.std.specs.Prelude.{slice_get}
use Rattle.std.proofs.lemmas.List.{get_or-map}

-- what passes behind a map is what passes before it
pub filter-mapped : {X Y : Type 0} (f : X → Y) (t : Y → Bool) (u : X → Bool) (xs : List X) → ((i : ℕ) (x : X) → slice_get xs i ≡ Some x → t (f x) ≡ u x) → filter t (map f xs) ≡ map f (filter u xs)
filter-mapped f t u [] h = refl
filter-mapped {X} {Y} f t u (x ∷ xs) h = let rest = filter-mapped f t u xs (λ k y at. h (suc k) y at) in (λ i. cond (h 0 x refl i) (f x ∷ rest i) (rest i)) ∙ by (u x)
  where
    by : (b : Bool) → cond b (f x ∷ map f (filter u xs)) (map f (filter u xs)) ≡ map f (cond b (x ∷ filter u xs) (filter u xs))
    by true = refl
    by false = refl

pub map-agree : {X Y : Type 0} (f g : X → Y) (xs : List X) → ((i : ℕ) (x : X) → slice_get xs i ≡ Some x → f x ≡ g x) → map f xs ≡ map g xs
map-agree f g [] h = refl
map-agree f g (x ∷ xs) h = λ i. h 0 x refl i ∷ map-agree f g xs (λ k y at. h (suc k) y at) i

pub map-twice : {A B C : Type 0} (g : B → C) (f : A → B) (xs : List A) → map g (map f xs) ≡ map (λ x. g (f x)) xs
map-twice g f [] = refl
map-twice g f (x ∷ xs) = ap (λ l. g (f x) ∷ l) (map-twice g f xs)

pub filter-length : {X Y : Type 0} (f : X → Y) (t : Y → Bool) (xs : List X) → length (filter t (map f xs)) ≡ length (filter (λ x. t (f x)) xs)
filter-length f t [] = refl
filter-length {X} {Y} f t (x ∷ xs) = by (t (f x)) (filter-length f t xs)
  where
    by : (b : Bool) → length (filter t (map f xs)) ≡ length (filter (λ x. t (f x)) xs) → length (cond b (f x ∷ filter t (map f xs)) (filter t (map f xs))) ≡ length (cond b (x ∷ filter (λ x. t (f x)) xs) (filter (λ x. t (f x)) xs))
    by true e = ap suc e
    by false e = e

-- the same of a function of the elements
pub alike-at : {X Y Z : Type 0} (f : X → Z) (g : Y → Z) (xs : List X) (ys : List Y) (n : ℕ) (d : X) (e : Y) → map f xs ≡ map g ys → n < length xs → n < length ys → f (get_or xs n d) ≡ g (get_or ys n e)
alike-at f g xs ys n d e same one two = sym (get_or-map f xs n d (g e) one) ∙ ap (λ l. get_or l n (g e)) same ∙ get_or-map g ys n e (g e) two

pub get-in : {X : Type 0} (xs : List X) (i : ℕ) (d : X) → i < length xs → slice_get xs i ≡ Some (get_or xs i d)
get-in [] i d lt = absurd (omega arith)
get-in (x ∷ xs) zero d lt = refl
get-in (x ∷ xs) (suc i) d lt = get-in xs i d (omega (arith, lt))

pub take_all : {X : Type 0} (n : ℕ) (xs : List X) → length xs ≤ n → take n xs ≡ xs
take_all zero [] few = refl
take_all zero (x ∷ xs) few = absurd (omega (arith, few))
take_all (suc n) [] few = refl
take_all (suc n) (x ∷ xs) few = ap (λ l. x ∷ l) (take_all n xs (omega (arith, few)))
