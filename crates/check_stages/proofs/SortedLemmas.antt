-- The order of a re-sorting merge, one column or place after the other.
use Rattle.std.proofs.Common.{◌≡◌, ℕ, zero, suc, ◌+◌, ◌<◌, Bool, true, false, cond, ◌||◌, List, [], ◌∷◌, ◌++◌, length, map, drop, get_or, refl, sym, ap, ◌∙◌, arith}
use Rattle.std.proofs.lemmas.List.{drop_more}
use Rattle.std.specs.List.{list_any, insert}
use Rattle.std.specs.Ordering.{is_eq, is_lt}
use Rattle.ut_key.specs.Keys.{key_cmp}
use Rattle.ut_plain.specs.declared.stage.Placed.{Placed}
use Rattle.ut_plain.specs.Merges.{put, in_order, key_in, distinct, distinct_in, column_order, place_cmp}

list_any-map : {X Y : Type 0} (test : Y → Bool) (f : X → Y) (xs : List X) → list_any test (map f xs) ≡ list_any (λ x. test (f x)) xs
list_any-map test f [] = refl
list_any-map test f (x ∷ xs) = ap (λ b. test (f x) || b) (list_any-map test f xs)

-- whether one of these places has the key of a place
abbrev pub is_among : ℕ → Placed → List Placed → Bool
is_among column place places = list_any (λ other. is_eq (key_cmp (key_in column place) (key_in column other))) places

distinct-cons : (column : ℕ) (place : Placed) (places : List Placed) → distinct_in (place ∷ places) column ≡ cond (is_among column place places) (distinct_in places column) (suc (distinct_in places column))
distinct-cons column place places = ap (λ b. cond b (distinct_in places column) (suc (distinct_in places column))) (list_any-map (λ k. is_eq (key_cmp (key_in column place) k)) (key_in column) places)

-- the places from one on
from : {X : Type 0} (xs : List X) (i at : ℕ) (x : X) → i < length xs → at ≡ i + 1 → x ≡ get_or xs i x → drop i xs ≡ x ∷ drop at xs
from xs i at x h n e = drop_more xs i x h ∙ sym (λ k. e k ∷ drop (n k) xs)

-- a key that stands further on counts there
pub distinct-again : (column : ℕ) (places : List Placed) (i at : ℕ) (place : Placed) (count : ℕ) → i < length places → at ≡ i + 1 → place ≡ get_or places i place → is_among column place (drop at places) ≡ true → count ≡ distinct_in (drop at places) column → count ≡ distinct_in (drop i places) column
distinct-again column places i at place count h n e t c =
    let rest = distinct_in (drop at places) column in
    c ∙ sym (ap (λ ps. distinct_in ps column) (from places i at place h n e) ∙ distinct-cons column place (drop at places) ∙ ap (λ b. cond b rest (suc rest)) t)

pub distinct-new : (column : ℕ) (places : List Placed) (i at : ℕ) (place : Placed) (count : ℕ) → i < length places → at ≡ i + 1 → place ≡ get_or places i place → is_among column place (drop at places) ≡ false → count ≡ distinct_in (drop at places) column → count + 1 ≡ distinct_in (drop i places) column
distinct-new column places i at place count h n e t c =
    let rest = distinct_in (drop at places) column in
    let one : count + 1 ≡ suc count = omega arith in
    one ∙ ap suc c ∙ sym (ap (λ ps. distinct_in ps column) (from places i at place h n e) ∙ distinct-cons column place (drop at places) ∙ ap (λ b. cond b rest (suc rest)) t)

-- a place comes among those behind it
pub sorted-more : (before : Placed → Placed → Bool) (places : List Placed) (i at : ℕ) (place : Placed) (sorted now : List Placed) → i < length places → at ≡ i + 1 → place ≡ get_or places i place → sorted ≡ in_order before (drop at places) → now ≡ put before place sorted → now ≡ in_order before (drop i places)
sorted-more before places i at place sorted now h n e s p = p ∙ ap (put before place) s ∙ sym (ap (in_order before) (from places i at place h n e))
