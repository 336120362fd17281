-- Codes in the order of their keys.
use Rattle.std.proofs.Common.{◌≡◌, ℕ, ◌+◌, ◌<◌, ◌≤◌, false, List, [], ◌∷◌, ◌++◌, length, map, get_or, All, refl, sym, ap, ◌∙◌, subst, arith, true≢false}
use Rattle.std.specs.List.{range_with_len, IsDistinct}
use Rattle.std.specs.List.Sorted.{IsPermutation}
use Rattle.std.specs.Cmp.{unsigned_ties}
use Rattle.std.specs.Cmp.Lexicographic.{nat_list_eq_equiv, lists_ties}
use Rattle.std.specs.Ordering.{nat_cmp, is_lt, is_eq, ordering_reverse}
use Rattle.std.specs.declared.cmp.Ordering.{Ordering}
use Rattle.std.specs.declared.cmp.Ordering.TheVariants.{Less, Equal, Greater}
use Rattle.std.proofs.lemmas.Cmp.{nat_list_cmp_total}
use Rattle.std.proofs.lemmas.List.{map-append, length-map, get_or-map, ext_get_or}
use Rattle.std.proofs.lemmas.List.FromFn.{length-map-range_with_len, get_or-map-range_with_len, map-range_with_len_more}
use Rattle.std.proofs.lemmas.List.Sorted.{IsPermutation-map, All-permutation}
use Rattle.std.proofs.lemmas.Map.Keys.{IsDistinct-IsPermutation, apart_from_distinct}
use Rattle.ut_key.specs.Keys.{key_cmp, IsAscending}
use Rattle.ut_unsorted.specs.FirstSeen.{key_eq, keys_at}

-- ---- the codes of a list that grows

map-same : (xs : List ℕ) → map (λ x. x) xs ≡ xs
map-same [] = refl
map-same (x ∷ xs) = ap (λ l. x ∷ l) (map-same xs)

pub range-more : (n : ℕ) → range_with_len 0 (n + 1) ≡ range_with_len 0 n ++ n ∷ []
range-more n = sym (map-same (range_with_len 0 (n + 1))) ∙ map-range_with_len_more (λ x. x) 0 n n (omega arith) ∙ ap (λ l. l ++ n ∷ []) (map-same (range_with_len 0 n))

pub codes-push : {X : Type 0} (code : X → ℕ) (xs : List X) (x : X) → map code xs ≡ range_with_len 0 (code x) → map code (xs ++ x ∷ []) ≡ range_with_len 0 (code x + 1)
codes-push code xs x h = map-append code xs (x ∷ []) ∙ ap (λ l. l ++ code x ∷ []) h ∙ sym (range-more (code x))

-- ---- keys that differ, none below one in front of it

pub below : (a b : List ℕ) → key_eq a b ≡ false → is_lt (key_cmp b a) ≡ false → key_cmp a b ≡ Less
below a b differ above = nat_list_cmp_total.antisymm a b ∙ by (key_cmp b a) refl
  where
    tied : key_eq b a ≡ is_eq (key_cmp b a)
    tied = lists_ties nat_cmp unsigned_ties b a

    by : (o : Ordering) → key_cmp b a ≡ o → ordering_reverse o ≡ Less
    by Less is = absurd (true≢false (sym (ap is_lt is) ∙ above))
    by Equal is = absurd (true≢false (sym (nat_list_eq_equiv.symm a b ∙ tied ∙ ap is_eq is) ∙ differ))
    by Greater is = refl

pub keys_at-all : (keys : List (List ℕ)) → keys_at keys (range_with_len 0 (length keys)) ≡ keys
keys_at-all keys =
    let n = length-map-range_with_len (λ c. get_or keys c []) 0 (length keys) in
    ext_get_or [] (keys_at keys (range_with_len 0 (length keys))) keys n (λ i lt. get_or-map-range_with_len (λ c. get_or keys c []) 0 (length keys) i i [] (omega (arith, lt, n)) (omega arith))

some_of : {X : Type 0} (xs : List X) → 0 < length xs → X
some_of [] h = absurd (omega (arith, h))
some_of (x ∷ xs) h = x

module _ {X : Type 0} (code : X → ℕ) (key : X → List ℕ) (keys : List (List ℕ)) (old new : List X) where
  -- elements that hold each code and its key, in another order
  pub order-all : map code old ≡ range_with_len 0 (length keys) → IsPermutation old new → IsPermutation (range_with_len 0 (length keys)) (map code new)
  order-all codes moved = subst (λ l. IsPermutation l (map code new)) codes (IsPermutation-map code old new moved)

  pub order-ascending : IsDistinct key_eq keys → map code old ≡ range_with_len 0 (length keys) → All (λ p. key p ≡ get_or keys (code p) []) old → IsPermutation old new
      → ((i j : ℕ) (d : X) → i ≤ j → j < length new → is_lt (key_cmp (key (get_or new j d)) (key (get_or new i d))) ≡ false) → IsAscending (keys_at keys (map code new))
  order-ascending differ codes each moved up i j lt within =
      let all : IsPermutation keys ks = subst (λ l. IsPermutation l ks) (keys_at-all keys) (IsPermutation-map at (range_with_len 0 (length keys)) (map code new) (order-all codes moved)) in
      let apart = apart_from_distinct key_eq ks i j [] (IsDistinct-IsPermutation key_eq nat_list_eq_equiv.symm keys ks all differ) lt within in
      let few : j < length new = omega (arith, within, long) in
      let d = some_of new (omega (arith, few)) in
      let first = here i d (omega (arith, lt, few)) in
      let second = here j d few in
      below (get_or ks i []) (get_or ks j []) apart ((λ k. is_lt (key_cmp (second k) (first k))) ∙ up i j d (omega (arith, lt)) few)
    where
      at : ℕ → List ℕ
      at c = get_or keys c []

      ks : List (List ℕ)
      ks = keys_at keys (map code new)

      long : length ks ≡ length new
      long = length-map (map code new) at ∙ length-map new code

      here : (k : ℕ) (d : X) → k < length new → get_or ks k [] ≡ key (get_or new k d)
      here k d small =
          get_or-map at (map code new) k 0 [] (omega (arith, small, length-map new code)) ∙ ap at (get_or-map code new k d 0 small)
          ∙ sym (All-permutation (λ p. key p ≡ get_or keys (code p) []) old new moved each k d small)
