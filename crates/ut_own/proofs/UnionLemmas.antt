-- Lists of keys in ascending order, and unions of them: what is in front and what is behind are united apart.
use Rattle.std.proofs.Common.{◌≡◌, ℕ, zero, suc, ◌<◌, List, [], ◌∷◌, ◌++◌, length, get_or, refl, ◌∙◌, ap, arith, Bool, true, false}
use Rattle.std.specs.declared.cmp.Ordering.{Ordering}
use Rattle.std.specs.declared.cmp.Ordering.TheVariants.{Less, Equal, Greater}
use Rattle.std.proofs.lemmas.Cmp.{nat_list_cmp_total}
use Rattle.std.specs.Ordering.{ordering_reverse}
use Rattle.ut_key.specs.Keys.{key_cmp, IsAscending}
use Rattle.ut_own.specs.Own.{used, placed, insert_key, union, Below, AreBelow, Ascends}

pub turned : (a b : List ℕ) → key_cmp a b ≡ Less → key_cmp b a ≡ Greater
turned a b e = nat_list_cmp_total.antisymm b a ∙ ap (λ o. ordering_reverse o) e

pub reversed : (a b : List ℕ) → key_cmp a b ≡ Greater → key_cmp b a ≡ Less
reversed a b e = nat_list_cmp_total.antisymm b a ∙ ap (λ o. ordering_reverse o) e

Below-append : (key : List ℕ) (xs ys : List (List ℕ)) → Below key xs → Below key ys → Below key (xs ++ ys)
Below-append key [] ys h k = k
Below-append key (x ∷ xs) ys h k = (h.0, Below-append key xs ys h.1 k)

Below-used : (key : List ℕ) (xs : List (List ℕ)) (fs : List Bool) → Below key xs → Below key (used xs fs)
Below-used key [] fs h = tt
Below-used key (x ∷ xs) [] h = tt
Below-used key (x ∷ xs) (true ∷ fs) h = (h.0, Below-used key xs fs h.1)
Below-used key (x ∷ xs) (false ∷ fs) h = Below-used key xs fs h.1

AreBelow-used_right : (xs ys : List (List ℕ)) (gs : List Bool) → AreBelow xs ys → AreBelow xs (used ys gs)
AreBelow-used_right [] ys gs h = tt
AreBelow-used_right (x ∷ xs) ys gs h = (Below-used x ys gs h.0, AreBelow-used_right xs ys gs h.1)

AreBelow-used_left : (xs : List (List ℕ)) (fs : List Bool) (ys : List (List ℕ)) → AreBelow xs ys → AreBelow (used xs fs) ys
AreBelow-used_left [] fs ys h = tt
AreBelow-used_left (x ∷ xs) [] ys h = tt
AreBelow-used_left (x ∷ xs) (true ∷ fs) ys h = (h.0, AreBelow-used_left xs fs ys h.1)
AreBelow-used_left (x ∷ xs) (false ∷ fs) ys h = AreBelow-used_left xs fs ys h.1

pub AreBelow-used : (xs : List (List ℕ)) (fs : List Bool) (ys : List (List ℕ)) (gs : List Bool) → AreBelow xs ys → AreBelow (used xs fs) (used ys gs)
AreBelow-used xs fs ys gs h = AreBelow-used_left xs fs (used ys gs) (AreBelow-used_right xs ys gs h)

Below-placed : (o : Ordering) (key x first : List ℕ) (rest inserted : List (List ℕ)) → key_cmp key x ≡ Less → key_cmp key first ≡ Less → Below key rest → Below key inserted
    → Below key (placed o x first rest inserted)
Below-placed Less key x first rest inserted h f r i = (h, (f, r))
Below-placed Equal key x first rest inserted h f r i = (f, r)
Below-placed Greater key x first rest inserted h f r i = (f, i)

Below-insert : (key x : List ℕ) (ys : List (List ℕ)) → key_cmp key x ≡ Less → Below key ys → Below key (insert_key x ys)
Below-insert key x [] h k = (h, tt)
Below-insert key x (y ∷ ys) h k = Below-placed (key_cmp x y) key x y ys (insert_key x ys) h k.0 k.1 (Below-insert key x ys h k.1)

pub Below-union : (key : List ℕ) (xs ys : List (List ℕ)) → Below key xs → Below key ys → Below key (union xs ys)
Below-union key [] ys h k = k
Below-union key (x ∷ xs) ys h k = Below-insert key x (union xs ys) h.0 (Below-union key xs ys h.1 k)

-- a key that is below all of the second part goes into the first
insert-front : (key : List ℕ) (xs ys : List (List ℕ)) → Below key ys → insert_key key (xs ++ ys) ≡ insert_key key xs ++ ys
insert-front key [] [] h = refl
insert-front key [] (y ∷ ys) h = ap (λ o. placed o key y ys (insert_key key ys)) h.0
insert-front key (x ∷ xs) ys h = step (key_cmp key x) (insert-front key xs ys h)
  where
    step : (o : Ordering) → insert_key key (xs ++ ys) ≡ insert_key key xs ++ ys → placed o key x (xs ++ ys) (insert_key key (xs ++ ys)) ≡ placed o key x xs (insert_key key xs) ++ ys
    step Less e = refl
    step Equal e = refl
    step Greater e = ap (λ l. x ∷ l) e

-- a key that all of the first part is below goes into the second
insert-back : (key : List ℕ) (xs ys : List (List ℕ)) → AreBelow xs (key ∷ []) → insert_key key (xs ++ ys) ≡ xs ++ insert_key key ys
insert-back key [] ys h = refl
insert-back key (x ∷ xs) ys h =
    ap (λ o. placed o key x (xs ++ ys) (insert_key key (xs ++ ys))) (turned x key h.0.0) ∙ ap (λ l. x ∷ l) (insert-back key xs ys h.1)

AreBelow-first : (xs : List (List ℕ)) (y : List ℕ) (ys : List (List ℕ)) → AreBelow xs (y ∷ ys) → AreBelow xs (y ∷ [])
AreBelow-first [] y ys h = tt
AreBelow-first (x ∷ xs) y ys h = ((h.0.0, tt), AreBelow-first xs y ys h.1)

AreBelow-rest : (xs : List (List ℕ)) (y : List ℕ) (ys : List (List ℕ)) → AreBelow xs (y ∷ ys) → AreBelow xs ys
AreBelow-rest [] y ys h = tt
AreBelow-rest (x ∷ xs) y ys h = (h.0.1, AreBelow-rest xs y ys h.1)

union-back : (xs ys zs : List (List ℕ)) → AreBelow ys xs → union xs (ys ++ zs) ≡ ys ++ union xs zs
union-back [] ys zs h = refl
union-back (x ∷ xs) ys zs h =
    ap (λ l. insert_key x l) (union-back xs ys zs (AreBelow-rest ys x xs h)) ∙ insert-back x ys (union xs zs) (AreBelow-first ys x xs h)

-- THE CUT: lists of which all in front is below all behind are united apart
pub union-cut : (a1 a2 b1 b2 : List (List ℕ)) → AreBelow a1 a2 → AreBelow a1 b2 → AreBelow b1 a2 → union (a1 ++ a2) (b1 ++ b2) ≡ union a1 b1 ++ union a2 b2
union-cut [] a2 b1 b2 h k l = union-back a2 b1 b2 l
union-cut (x ∷ a1) a2 b1 b2 h k l =
    ap (λ m. insert_key x m) (union-cut a1 a2 b1 b2 h.1 k.1 l) ∙ insert-front x (union a1 b1) (union a2 b2) (Below-union x a2 b2 h.0 k.0)

pub used-append : (a1 a2 : List (List ℕ)) (f1 f2 : List Bool) → length a1 ≡ length f1 → used (a1 ++ a2) (f1 ++ f2) ≡ used a1 f1 ++ used a2 f2
used-append [] a2 [] f2 e = refl
used-append [] a2 (f ∷ f1) f2 e = absurd (omega arith)
used-append (x ∷ a1) a2 [] f2 e = absurd (omega arith)
used-append (x ∷ a1) a2 (true ∷ f1) f2 e = ap (λ l. x ∷ l) (used-append a1 a2 f1 f2 (omega arith))
used-append (x ∷ a1) a2 (false ∷ f1) f2 e = used-append a1 a2 f1 f2 (omega arith)

-- ascending keys stay so
Ascends-placed : (o : Ordering) (key first : List ℕ) (rest : List (List ℕ)) → key_cmp key first ≡ o → Below first rest → Ascends rest → Ascends (insert_key key rest)
    → Ascends (placed o key first rest (insert_key key rest))
Ascends-placed Less key first rest e b r i = ((e, Below-trans key first rest e b), (b, r))
  where
    Below-trans : (k f : List ℕ) (ys : List (List ℕ)) → key_cmp k f ≡ Less → Below f ys → Below k ys
    Below-trans k f [] h t = tt
    Below-trans k f (y ∷ ys) h t = (nat_list_cmp_total.trans k f y h t.0, Below-trans k f ys h t.1)
Ascends-placed Equal key first rest e b r i = (b, r)
Ascends-placed Greater key first rest e b r i = (Below-insert first key rest (reversed key first e) b, i)

Ascends-insert : (key : List ℕ) (ys : List (List ℕ)) → Ascends ys → Ascends (insert_key key ys)
Ascends-insert key [] h = (tt, tt)
Ascends-insert key (y ∷ ys) h = Ascends-placed (key_cmp key y) key y ys refl h.0 h.1 (Ascends-insert key ys h.1)

pub Ascends-union : (xs ys : List (List ℕ)) → Ascends ys → Ascends (union xs ys)
Ascends-union [] ys h = h
Ascends-union (x ∷ xs) ys h = Ascends-insert x (union xs ys) (Ascends-union xs ys h)

pub Ascends-used : (xs : List (List ℕ)) (fs : List Bool) → Ascends xs → Ascends (used xs fs)
Ascends-used [] fs h = tt
Ascends-used (x ∷ xs) [] h = tt
Ascends-used (x ∷ xs) (true ∷ fs) h = (Below-used x xs fs h.0, Ascends-used xs fs h.1)
Ascends-used (x ∷ xs) (false ∷ fs) h = Ascends-used xs fs h.1

-- ---- by places

pub Below-at : (key : List ℕ) (ys : List (List ℕ)) → ((q : ℕ) → q < length ys → key_cmp key (get_or ys q []) ≡ Less) → Below key ys
Below-at key [] h = tt
Below-at key (y ∷ ys) h = (h 0 (omega arith), Below-at key ys (λ q lt. h (suc q) (omega arith)))

pub Below-get_or : (key : List ℕ) (ys : List (List ℕ)) (p : ℕ) → Below key ys → p < length ys → key_cmp key (get_or ys p []) ≡ Less
Below-get_or key [] p h lt = absurd (omega arith)
Below-get_or key (y ∷ ys) zero h lt = h.0
Below-get_or key (y ∷ ys) (suc p) h lt = Below-get_or key ys p h.1 (omega arith)

pub Ascends-at : (xs : List (List ℕ)) → IsAscending xs → Ascends xs
Ascends-at [] h = tt
Ascends-at (x ∷ xs) h = (Below-at x xs (λ q lt. h 0 (suc q) (omega arith) (omega arith)), Ascends-at xs (λ i j lt w. h (suc i) (suc j) (omega arith) (omega arith)))

pub IsAscending-from : (xs : List (List ℕ)) → Ascends xs → IsAscending xs
IsAscending-from [] h i j lt w = absurd (omega arith)
IsAscending-from (x ∷ xs) h i zero lt w = absurd (omega arith)
IsAscending-from (x ∷ xs) h zero (suc j) lt w = Below-get_or x xs j h.0 (omega arith)
IsAscending-from (x ∷ xs) h (suc i) (suc j) lt w = IsAscending-from xs h.1 i j (omega arith) (omega arith)

pub AreBelow-at : (xs ys : List (List ℕ)) → ((p : ℕ) → p < length xs → Below (get_or xs p []) ys) → AreBelow xs ys
AreBelow-at [] ys h = tt
AreBelow-at (x ∷ xs) ys h = (h 0 (omega arith), AreBelow-at xs ys (λ p lt. h (suc p) (omega arith)))
