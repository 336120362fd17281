-- Rows in another order: their ids, their columns, and that a column's own dictionary is the same.
use Rattle.std.proofs.Common.{◌≡◌, inl, inr, ℕ, ◌<◌, List, [], ◌∷◌, ◌++◌, length, map, get_or, All, refl, sym, ap, ◌∙◌, subst, Bool, true, false, true≢false}
use Rattle.std.specs.List.{range_with_len}
use Rattle.std.specs.List.Sorted.{IsPermutation}
use Rattle.std.proofs.lemmas.List.{get_or-map}
use Rattle.std.proofs.lemmas.List.Elements.{All-head, All-tail}
use Rattle.std.proofs.lemmas.List.Sorted.{IsPermutation-map, IsPermutation-sym, Contains-permutation}
use Rattle.ut_bits.specs.Bits.{AllBelow}
use Rattle.ut_bits.proofs.BitLemmas.{AllBelow-at}
use Rattle.ut_own.specs.Own.{own_dict, holds, news, In}
use Rattle.ut_own.proofs.MemberLemmas.{same_members}
use Rattle.ut_own.proofs.UnionLemmas.{Ascends-union}
use Rattle.ut_main.proofs.KeyLemmas.{contains-in, in-contains, in-holds, holds-in}
use Rattle.ut_main.proofs.OwnLemmas.{own-held, cell-known}
use Rattle.ut_merge.specs.Columns.{AreCoded}
use Rattle.ut_merge.proofs.KeptLemmas.{at_all}

-- the elements at all places, in any order
module _ {X : Type 0} where
  pub moved-permutes : (xs : List X) (d : X) (places : List ℕ) → IsPermutation (range_with_len 0 (length xs)) places → IsPermutation xs (map (λ p. get_or xs p d) places)
  moved-permutes xs d places h =
      subst (λ (l : List X). IsPermutation l (map (λ p. get_or xs p d) places)) (at_all xs d) (IsPermutation-map (λ p. get_or xs p d) (range_with_len 0 (length xs)) places h)

-- what is made of each element moves with it
pub moved-map : {X Y : Type 0} (f : X → Y) (xs : List X) (d : X) (e : Y) (places : List ℕ) → All (λ p. p < length xs) places → map (λ p. get_or (map f xs) p e) places ≡ map f (map (λ p. get_or xs p d) places)
moved-map f xs d e [] all = refl
moved-map f xs d e (p ∷ places) all =
    let here : p < length xs = All-head (λ p. p < length xs) p places all in
    λ i. get_or-map f xs p d e here i ∷ moved-map f xs d e places (All-tail (λ p. p < length xs) p places all) i

-- ---- codes

moved-below : (n : ℕ) (codes : List ℕ) (places : List ℕ) → AllBelow n codes → All (λ p. p < length codes) places → AllBelow n (map (λ p. get_or codes p 0) places)
moved-below n codes [] low all = tt
moved-below n codes (p ∷ places) low all =
    (AllBelow-at n codes p low (All-head (λ p. p < length codes) p places all), moved-below n codes places low (All-tail (λ p. p < length codes) p places all))

pub moved-coded : (keys cells : List (List ℕ)) (codes places : List ℕ) → AreCoded keys cells codes → All (λ p. p < length codes) places → AreCoded keys (map (λ p. get_or cells p []) places) (map (λ p. get_or codes p 0) places)
moved-coded keys cells codes places h all = record {
  below = moved-below (length keys) codes places h.below all;
  cells_are = sym (moved-map (λ c. get_or keys c []) codes 0 [] places all) ∙ ap (λ (l : List (List ℕ)). map (λ p. get_or l p []) places) h.cells_are;
}

-- ---- own dictionaries

own-in : (earlier cells others : List (List ℕ)) → ((key : List ℕ) → In key cells → In key others) → (key : List ℕ) → In key (own_dict earlier cells) → In key (own_dict earlier others)
own-in earlier cells others same key there =
    let held = own-held earlier cells key there in
    behind earlier (own_dict earlier others) held.1 (cell-known earlier others key (same key held.0))
  where
    behind : (xs ys : List (List ℕ)) → holds xs key ≡ false → In key (xs ++ ys) → In key ys
    behind [] ys none h = h
    behind (x ∷ xs) ys none (inl here) = absurd (true≢false (sym (in-holds (x ∷ xs) key (inl here)) ∙ none))
    behind (x ∷ xs) ys none (inr h) = behind xs ys (lacks none) h
      where
        lacks : holds (x ∷ xs) key ≡ false → holds xs key ≡ false
        lacks e = by (holds xs key) refl
          where
            by : (b : Bool) → holds xs key ≡ b → b ≡ false
            by false q = refl
            by true q = absurd (true≢false (sym (in-holds (x ∷ xs) key (inr (holds-in xs key q))) ∙ e))

-- the order of the cells doesn't matter for their own dictionary
pub own-moved : (earlier cells others : List (List ℕ)) → IsPermutation cells others → own_dict earlier cells ≡ own_dict earlier others
own-moved earlier cells others h =
    same_members (own_dict earlier cells) (own_dict earlier others) (Ascends-union (news earlier cells) [] tt) (Ascends-union (news earlier others) [] tt)
    (own-in earlier cells others (λ key there. contains-in others key (Contains-permutation cells others key h (in-contains cells key there))))
    (own-in earlier others cells (λ key there. contains-in cells key (Contains-permutation others cells key (IsPermutation-sym cells others h) (in-contains others key there))))
