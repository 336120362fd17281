-- What is left of a list where one item was read.
use Rattle.std.proofs.Common.{◌≡◌, ◌+◌, ◌++◌, ◌∷◌, ℕ, List, drop, Some, ap, ◌∙◌}
use Rattle.std.proofs.lemmas.List.{drop_more}
use Rattle.std.proofs.lemmas.List.Concat.{flat_map-cons}
use Rattle.std.proofs.lemmas.List.Sums.{sum_by-drop_more}
use Rattle.std.proofs.lemmas.Option.{slice_get_within, get_or_from_slice_get}
use Rattle.std.specs.Prelude.{slice_get, flat_map, sum_by}

-- the item read, and those behind it
pub drop_read : {A : Type 0} (xs : List A) (i : ℕ) (x : A) → slice_get xs i ≡ Some x → drop i xs ≡ x ∷ drop (i + 1) xs
drop_read xs i x read = drop_more xs i x (slice_get_within xs i x read) ∙ ap (λ y. y ∷ drop (i + 1) xs) (get_or_from_slice_get xs i x x read)

-- its number, and those of the items behind it
pub sum_read : {A : Type 0} (f : A → ℕ) (xs : List A) (i : ℕ) (x : A) → slice_get xs i ≡ Some x → sum_by f (drop i xs) ≡ f x + sum_by f (drop (i + 1) xs)
sum_read f xs i x read = sum_by-drop_more f xs i x (slice_get_within xs i x read) ∙ ap (λ y. f y + sum_by f (drop (i + 1) xs)) (get_or_from_slice_get xs i x x read)

-- its text, and those of the items behind it
pub text_read : {A : Type 0} (f : A → List ℕ) (xs : List A) (i : ℕ) (x : A) → slice_get xs i ≡ Some x → flat_map f (drop i xs) ≡ f x ++ flat_map f (drop (i + 1) xs)
text_read f xs i x read = ap (λ ys. flat_map f ys) (drop_read xs i x read) ∙ flat_map-cons f x (drop (i + 1) xs)
