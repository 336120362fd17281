-- Keys among keys: what is held, places of keys, and lists that hold no key twice.
use Rattle.std.proofs.Common.{◌≡◌, ◌≢◌, inl, inr, ℕ, zero, suc, ◌+◌, ◌-◌, ◌<◌, Bool, true, false, not, cond, ◌||◌, List, [], ◌∷◌, ◌++◌, length, map, get_or, refl, sym, ◌∙◌, ap, subst, arith, true≢false}
use Rattle.std.proofs.lemmas.Bool.{or_cases, cases_lt}
use Rattle.std.proofs.lemmas.Cmp.{nat_list_cmp_total, tied_itself}
use Rattle.std.proofs.lemmas.List.{get_or_append_left, get_or-append_right, get_or_default, length-append}
use Rattle.std.proofs.lemmas.List.Sums.{position_or_len_is}
use Rattle.std.specs.List.{Contains}
use Rattle.std.specs.Ordering.{is_eq}
use Rattle.std.specs.declared.cmp.Ordering.{Ordering}
use Rattle.std.specs.declared.cmp.Ordering.TheVariants.{Less, Equal, Greater}
use Rattle.ut_bits.specs.Bits.{AllBelow}
use Rattle.ut_key.specs.Keys.{key_cmp, IsAscending}
use Rattle.ut_own.specs.Own.{holds, cells_of, In, Below, Ascends}
use Rattle.ut_own.proofs.MemberLemmas.{key_same}
use Rattle.ut_main.specs.Columns.{place_of, AreDistinct}

-- ---- members

tied : (o : Ordering) → is_eq o ≡ true → o ≡ Equal
tied Less e = absurd (true≢false (sym e))
tied Equal e = refl
tied Greater e = absurd (true≢false (sym e))

same_tied : (a b : List ℕ) → a ≡ b → is_eq (key_cmp a b) ≡ true
same_tied a b e = ap (λ o. is_eq o) (ap (key_cmp a) (sym e) ∙ tied_itself nat_list_cmp_total a)

or_left : (a b : Bool) → a ≡ true → (a || b) ≡ true
or_left true b e = refl
or_left false b e = absurd (true≢false (sym e))

or_right : (a b : Bool) → b ≡ true → (a || b) ≡ true
or_right true b e = refl
or_right false b e = e

pub holds-in : (keys : List (List ℕ)) (key : List ℕ) → holds keys key ≡ true → In key keys
holds-in [] key h = absurd (true≢false (sym h))
holds-in (k ∷ keys) key h = elim (or_cases (is_eq (key_cmp key k)) (holds keys key) h) [
  | inl here ↦ inl (key_same key k (tied (key_cmp key k) here))
  | inr there ↦ inr (holds-in keys key there)
]

pub in-holds : (keys : List (List ℕ)) (key : List ℕ) → In key keys → holds keys key ≡ true
in-holds [] key h = absurd h
in-holds (k ∷ keys) key (inl here) = or_left (is_eq (key_cmp key k)) (holds keys key) (same_tied key k here)
in-holds (k ∷ keys) key (inr there) = or_right (is_eq (key_cmp key k)) (holds keys key) (in-holds keys key there)

pub in-get : (keys : List (List ℕ)) (key : List ℕ) → In key keys → (i : ℕ) × (i < length keys) × (key ≡ get_or keys i [])
in-get [] key h = absurd h
in-get (k ∷ keys) key (inl here) = (0, omega arith, here)
in-get (k ∷ keys) key (inr there) = let r = in-get keys key there in (suc r.0, omega (arith, r.1), r.2)

pub in-at : (keys : List (List ℕ)) (i : ℕ) → i < length keys → In (get_or keys i []) keys
in-at [] i lt = absurd (omega (arith, lt))
in-at (k ∷ keys) zero lt = inl refl
in-at (k ∷ keys) (suc i) lt = inr (in-at keys i (omega (arith, lt)))

pub in-contains : (keys : List (List ℕ)) (key : List ℕ) → In key keys → Contains keys key
in-contains keys key h = let r = in-get keys key h in (r.0, r.1, get_or_default keys r.0 key [] r.1 ∙ sym r.2)

pub contains-in : (keys : List (List ℕ)) (key : List ℕ) → Contains keys key → In key keys
contains-in keys key h = subst (λ (k : List ℕ). In k keys) (get_or_default keys h.0 [] key h.1 ∙ h.2) (in-at keys h.0 h.1)

pub in-left : (key : List ℕ) (xs ys : List (List ℕ)) → In key xs → In key (xs ++ ys)
in-left key [] ys h = absurd h
in-left key (x ∷ xs) ys (inl here) = inl here
in-left key (x ∷ xs) ys (inr there) = inr (in-left key xs ys there)

pub in-right : (key : List ℕ) (xs ys : List (List ℕ)) → In key ys → In key (xs ++ ys)
in-right key [] ys h = h
in-right key (x ∷ xs) ys h = inr (in-right key xs ys h)

-- ---- keys that differ

untied : (a b : List ℕ) → a ≢ b → is_eq (key_cmp a b) ≡ false
untied a b differ = by (key_cmp a b) refl
  where
    by : (o : Ordering) → key_cmp a b ≡ o → is_eq o ≡ false
    by Less e = refl
    by Equal e = absurd (differ (key_same a b e))
    by Greater e = refl

pub distinct-ascending : (keys : List (List ℕ)) → IsAscending keys → AreDistinct keys
distinct-ascending keys up i j lt within e = differ (sym (up i j lt within) ∙ ap (key_cmp (get_or keys i [])) (sym e) ∙ tied_itself nat_list_cmp_total (get_or keys i []))
  where
    differ : Less ≡ Equal → ⊥
    differ h = cc

pub distinct-append : (xs ys : List (List ℕ)) → AreDistinct xs → AreDistinct ys → ((key : List ℕ) → In key xs → In key ys → ⊥) → AreDistinct (xs ++ ys)
distinct-append xs ys left right apart i j lt within e =
    let size = length-append xs ys in
    elim (cases_lt j (length xs)) [
      | inl low ↦
          let li : i < length xs = omega (arith, lt, low) in
          left i j lt low (sym (get_or_append_left xs ys [] i li) ∙ e ∙ get_or_append_left xs ys [] j low)
      | inr high ↦
          let there : get_or (xs ++ ys) j [] ≡ get_or ys (j - length xs) [] = get_or-append_right xs ys (length xs) j [] refl high in
          let lj : j - length xs < length ys = omega (arith, within, size, high) in
          elim (cases_lt i (length xs)) [
            | inl low ↦ apart (get_or xs i []) (in-at xs i low) (subst (λ (k : List ℕ). In k ys) (sym (sym (get_or_append_left xs ys [] i low) ∙ e ∙ there)) (in-at ys (j - length xs) lj))
            | inr above ↦
                let here : get_or (xs ++ ys) i [] ≡ get_or ys (i - length xs) [] = get_or-append_right xs ys (length xs) i [] refl above in
                right (i - length xs) (j - length xs) (omega (arith, lt, above)) lj (sym here ∙ e ∙ there)
          ]
    ]

-- ---- ascending keys

below-get : (key : List ℕ) (keys : List (List ℕ)) (j : ℕ) → Below key keys → j < length keys → key_cmp key (get_or keys j []) ≡ Less
below-get key [] j h lt = absurd (omega (arith, lt))
below-get key (k ∷ keys) zero h lt = h.0
below-get key (k ∷ keys) (suc j) h lt = below-get key keys j h.1 (omega (arith, lt))

pub ascending-from : (keys : List (List ℕ)) → Ascends keys → IsAscending keys
ascending-from [] h i j lt within = absurd (omega (arith, within))
ascending-from (k ∷ keys) h zero zero lt within = absurd (omega (arith, lt))
ascending-from (k ∷ keys) h zero (suc j) lt within = below-get k keys j h.0 (omega (arith, within))
ascending-from (k ∷ keys) h (suc i) zero lt within = absurd (omega (arith, lt))
ascending-from (k ∷ keys) h (suc i) (suc j) lt within = ascending-from keys h.1 i j (omega (arith, lt)) (omega (arith, within))

below-from : (key : List ℕ) (keys : List (List ℕ)) → ((j : ℕ) → j < length keys → key_cmp key (get_or keys j []) ≡ Less) → Below key keys
below-from key [] h = tt
below-from key (k ∷ keys) h = (h 0 (omega arith), below-from key keys (λ j lt. h (suc j) (omega (arith, lt))))

pub ascends-from : (keys : List (List ℕ)) → IsAscending keys → Ascends keys
ascends-from [] h = tt
ascends-from (k ∷ keys) h = (
  below-from k keys (λ j lt. h 0 (suc j) (omega arith) (omega (arith, lt))),
  ascends-from keys (λ i j lt within. h (suc i) (suc j) (omega (arith, lt)) (omega (arith, within))),
)

-- ---- places

pub place-get : (keys : List (List ℕ)) (c : ℕ) → AreDistinct keys → c < length keys → place_of keys (get_or keys c []) ≡ c
place-get keys c distinct lt =
    position_or_len_is (λ k. is_eq (key_cmp (get_or keys c []) k)) keys c [] (omega (arith, lt))
    (λ k before. untied (get_or keys c []) (get_or keys k []) (λ same. distinct k c before lt (sym same)))
    (λ _. same_tied (get_or keys c []) (get_or keys c []) refl)

-- codes are the places of what they stand for
pub places-codes : (keys : List (List ℕ)) (codes : List ℕ) → AreDistinct keys → AllBelow (length keys) codes → map (place_of keys) (cells_of keys codes) ≡ codes
places-codes keys [] distinct below = refl
places-codes keys (c ∷ codes) distinct below =
    let first = place-get keys c distinct below.0 in
    let rest = places-codes keys codes distinct below.1 in
    λ i. first i ∷ rest i

-- at the place of a key that is there stands the key
pub at-place : (keys : List (List ℕ)) (key : List ℕ) → In key keys → (place_of keys key < length keys) × (get_or keys (place_of keys key) [] ≡ key)
at-place [] key h = absurd h
at-place (k ∷ keys) key h = by (is_eq (key_cmp key k)) refl h (at-place keys key)
  where
    by : (b : Bool) → is_eq (key_cmp key k) ≡ b → In key (k ∷ keys) → (In key keys → (place_of keys key < length keys) × (get_or keys (place_of keys key) [] ≡ key))
        → (cond (not b) (1 + place_of keys key) 0 < suc (length keys)) × (get_or (k ∷ keys) (cond (not b) (1 + place_of keys key) 0) [] ≡ key)
    by true e other more = (omega arith, sym (key_same key k (tied (key_cmp key k) e)))
    by false e (inl here) more = absurd (true≢false (sym (same_tied key k here) ∙ e))
    by false e (inr there) more = let r = more there in let one : 1 + place_of keys key ≡ suc (place_of keys key) = omega arith in (omega (arith, r.0), ap (λ n. get_or (k ∷ keys) n []) one ∙ r.1)

-- the places of cells stand for the cells
pub cells-places : (keys cells : List (List ℕ)) → ((key : List ℕ) → In key cells → In key keys) → cells_of keys (map (place_of keys) cells) ≡ cells
cells-places keys [] known = refl
cells-places keys (cell ∷ cells) known =
    let first = (at-place keys cell (known cell (inl refl))).1 in
    let rest = cells-places keys cells (λ key there. known key (inr there)) in
    λ i. first i ∷ rest i

pub places-below : (keys cells : List (List ℕ)) → ((key : List ℕ) → In key cells → In key keys) → AllBelow (length keys) (map (place_of keys) cells)
places-below keys [] known = tt
places-below keys (cell ∷ cells) known = ((at-place keys cell (known cell (inl refl))).0, places-below keys cells (λ key there. known key (inr there)))
