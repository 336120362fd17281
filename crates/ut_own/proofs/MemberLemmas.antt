-- Ascending lists of the same keys are the same list, so whatever way finds the used keys finds the own dictionary.
use Rattle.std.proofs.Common.{◌≡◌, ◌⊎◌, inl, inr, ℕ, ◌<◌, List, [], ◌∷◌, ◌++◌, get_or, refl, sym, ◌∙◌, ap, subst, Bool, true, false, ◌||◌, nat_eq, Option, None, Some, unwrap_or}
use Rattle.std.proofs.lemmas.Bool.{eq-eqb}
use Rattle.std.specs.declared.cmp.Ordering.{Ordering}
use Rattle.std.specs.declared.cmp.Ordering.TheVariants.{Less, Equal, Greater}
use Rattle.std.proofs.lemmas.Cmp.{nat_list_cmp_total, tied_itself, ranked}
use Rattle.std.specs.Ordering.{ordering_then, MatchOrdering, nat_cmp}
use Rattle.std.specs.List.{list_any}
use Rattle.ut_key.specs.Keys.{key_cmp}
use Rattle.ut_own.proofs.UnionLemmas.{turned, Ascends-union}
use Rattle.ut_own.specs.Own.{placed, insert_key, union, used, news, own_dict, cells_of, recoded, In, Below, Ascends}

-- ---- keys that compare as equal

pub key_same : (a b : List ℕ) → key_cmp a b ≡ Equal → a ≡ b
key_same [] [] h = refl
key_same [] (y ∷ ys) h = cc
key_same (x ∷ xs) [] h = cc
key_same (x ∷ xs) (y ∷ ys) h = by (nat_cmp x y) (ranked x y (nat_cmp x y) refl) h (key_same xs ys)
  where
    by : (o : Ordering) → MatchOrdering o (x < y) (x ≡ y) (y < x) → ordering_then o (key_cmp xs ys) ≡ Equal → (key_cmp xs ys ≡ Equal → xs ≡ ys) → (x ∷ xs) ≡ (y ∷ ys)
    by Less m g rest = cc
    by Equal m g rest = λ i. m i ∷ rest g i
    by Greater m g rest = cc

-- ---- which keys stand where

in-placed : (o : Ordering) (k key first : List ℕ) (rest inserted : List (List ℕ)) → (In k inserted → (k ≡ key) ⊎ In k rest) → In k (placed o key first rest inserted) → (k ≡ key) ⊎ In k (first ∷ rest)
in-placed Less k key first rest inserted more h = h
in-placed Equal k key first rest inserted more h = inr h
in-placed Greater k key first rest inserted more (inl h) = inr (inl h)
in-placed Greater k key first rest inserted more (inr h) = elim (more h) [ inl same ↦ inl same | inr there ↦ inr (inr there) ]

in-insert : (k key : List ℕ) (ys : List (List ℕ)) → In k (insert_key key ys) → (k ≡ key) ⊎ In k ys
in-insert k key [] h = h
in-insert k key (y ∷ ys) h = in-placed (key_cmp key y) k key y ys (insert_key key ys) (in-insert k key ys) h

placed-in : (o : Ordering) (k key first : List ℕ) (rest inserted : List (List ℕ)) → key_cmp key first ≡ o → ((k ≡ key) ⊎ In k rest → In k inserted) → (k ≡ key) ⊎ In k (first ∷ rest) → In k (placed o key first rest inserted)
placed-in Less k key first rest inserted e more h = h
placed-in Equal k key first rest inserted e more (inl h) = inl (h ∙ key_same key first e)
placed-in Equal k key first rest inserted e more (inr h) = h
placed-in Greater k key first rest inserted e more (inl h) = inr (more (inl h))
placed-in Greater k key first rest inserted e more (inr (inl h)) = inl h
placed-in Greater k key first rest inserted e more (inr (inr h)) = inr (more (inr h))

insert-in : (k key : List ℕ) (ys : List (List ℕ)) → (k ≡ key) ⊎ In k ys → In k (insert_key key ys)
insert-in k key [] h = h
insert-in k key (y ∷ ys) h = placed-in (key_cmp key y) k key y ys (insert_key key ys) refl (insert-in k key ys) h

pub in-union : (k : List ℕ) (xs ys : List (List ℕ)) → In k (union xs ys) → In k xs ⊎ In k ys
in-union k [] ys h = inr h
in-union k (x ∷ xs) ys h = elim (in-insert k x (union xs ys) h) [
  | inl same ↦ inl (inl same)
  | inr there ↦ elim (in-union k xs ys there) [ inl a ↦ inl (inr a) | inr b ↦ inr b ]
]

pub union-in : (k : List ℕ) (xs ys : List (List ℕ)) → In k xs ⊎ In k ys → In k (union xs ys)
union-in k [] ys (inl h) = absurd h
union-in k [] ys (inr h) = h
union-in k (x ∷ xs) ys (inl (inl h)) = insert-in k x (union xs ys) (inl h)
union-in k (x ∷ xs) ys (inl (inr h)) = insert-in k x (union xs ys) (inr (union-in k xs ys (inl h)))
union-in k (x ∷ xs) ys (inr h) = insert-in k x (union xs ys) (inr (union-in k xs ys (inr h)))

-- ---- the same keys, ascending, are the same list

-- a key below all of these isn't one of them
not-below : (k : List ℕ) (ys : List (List ℕ)) → Below k ys → In k ys → ⊥
not-below k [] b h = h
not-below k (y ∷ ys) b (inl same) = differ (sym b.0 ∙ ap (key_cmp k) (sym same) ∙ tied_itself nat_list_cmp_total k)
  where
    differ : Less ≡ Equal → ⊥
    differ e = cc
not-below k (y ∷ ys) b (inr there) = not-below k ys b.1 there

below-in : (k m : List ℕ) (ys : List (List ℕ)) → Below k ys → In m ys → key_cmp k m ≡ Less
below-in k m [] b h = absurd h
below-in k m (y ∷ ys) b (inl same) = ap (key_cmp k) same ∙ b.0
below-in k m (y ∷ ys) b (inr there) = below-in k m ys b.1 there

pub same_members : (xs ys : List (List ℕ)) → Ascends xs → Ascends ys → ((k : List ℕ) → In k xs → In k ys) → ((k : List ℕ) → In k ys → In k xs) → xs ≡ ys
same_members [] [] a b to from = refl
same_members [] (y ∷ ys) a b to from = absurd (from y (inl refl))
same_members (x ∷ xs) [] a b to from = absurd (to x (inl refl))
same_members (x ∷ xs) (y ∷ ys) a b to from =
    let first : x ≡ y = heads (to x (inl refl)) (from y (inl refl)) in
    let rest : xs ≡ ys = same_members xs ys a.1 b.1
    (λ k h. elim (to k (inr h)) [ inl at ↦ absurd (not-below x xs a.0 (subst (λ (z : List ℕ). In z xs) (at ∙ sym first) h)) | inr there ↦ there ])
    (λ k h. elim (from k (inr h)) [ inl at ↦ absurd (not-below y ys b.0 (subst (λ (z : List ℕ). In z ys) (at ∙ first) h)) | inr there ↦ there ]) in
    λ i. first i ∷ rest i
  where
    heads : (x ≡ y) ⊎ In x ys → (y ≡ x) ⊎ In y xs → x ≡ y
    heads (inl same) other = same
    heads (inr there) (inl same) = sym same
    heads (inr there) (inr also) = absurd (both (sym (turned y x (below-in y x ys b.0 there)) ∙ below-in x y xs a.0 also))
      where
        both : Greater ≡ Less → ⊥
        both e = cc

-- ---- the own dictionary

-- Whatever ascends and holds just the new keys of the cells is the own dictionary of these cells.
pub own_dict-is : (dict earlier cells : List (List ℕ)) → Ascends dict → ((k : List ℕ) → In k dict → In k (news earlier cells)) → ((k : List ℕ) → In k (news earlier cells) → In k dict) → dict ≡ own_dict earlier cells
own_dict-is dict earlier cells up to from =
    same_members dict (own_dict earlier cells) up (Ascends-union (news earlier cells) [] tt)
    (λ k h. union-in k (news earlier cells) [] (inl (to k h)))
    (λ k h. elim (in-union k (news earlier cells) [] h) [ inl a ↦ from k a | inr b ↦ absurd b ])

-- ---- codes

-- Codes by a map that keeps the keys of the codes that stand there mean the same.
pub recoded-is : (old new : List (List ℕ)) (entries : List (Option ℕ)) (codes : List ℕ)
    → ((c : ℕ) → list_any (nat_eq c) codes ≡ true → (d : ℕ) × (get_or entries c None ≡ Some d) × (get_or new d [] ≡ get_or old c [])) → cells_of new (recoded entries codes) ≡ cells_of old codes
recoded-is old new entries [] h = refl
recoded-is old new entries (c ∷ codes) h =
    let here = h c (ap (λ b. b || list_any (nat_eq c) codes) (eq-eqb c c refl)) in
    let first : get_or new (unwrap_or (get_or entries c None) 0) [] ≡ get_or old c [] = ap (λ o. get_or new (unwrap_or o 0) []) here.1 ∙ here.2 in
    let rest = recoded-is old new entries codes (λ d at. h d (or_right (nat_eq d c) (list_any (nat_eq d) codes) at)) in
    λ i. first i ∷ rest i
  where
    or_right : (a b : Bool) → b ≡ true → (a || b) ≡ true
    or_right true b e = refl
    or_right false b e = e
