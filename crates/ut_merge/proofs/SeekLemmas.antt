-- The closed stage's keys: which of them are new, and the dictionary of these.
use Rattle.std.proofs.Common.{◌≡◌, ◌≢◌, set, ◌↔◌, inl, inr, ℕ, zero, suc, ◌+◌, ◌*◌, ◌<◌, ◌≤◌, List, [], ◌∷◌, ◌++◌, length, take, get_or, filter, All, refl, sym, ◌∙◌, ap, subst, arith, Bool, true, false, not, cond, ◌&&◌, Option, Some, None, true≢false}
use Rattle.std.specs.List.{Contains, range_with_len}
use Rattle.std.specs.List.Sorted.{IsPermutation}
use Rattle.std.proofs.lemmas.Bool.{cases_lt}
use Rattle.std.proofs.lemmas.Bool.Decides.{eqb_tells}
use Rattle.std.proofs.Math.Nat.{mul-le-mul_left}
use Rattle.std.proofs.lemmas.List.{take_more, length-take-le, length-map, get_or-map, get_or-take, get_or-set_same, get_or-set_other, get_or_append_left, get_or_at, get_or_default, same_lists}
use Rattle.std.proofs.lemmas.List.FromFn.{length-range_with_len, get_or-range_with_len}
use Rattle.std.proofs.lemmas.List.Elements.{Contains-get_or}
use Rattle.std.proofs.lemmas.List.Sorted.{All-permutation, Contains-permutation}
use Rattle.ut_key.specs.Keys.{IsAscending}
use Rattle.ut_own.specs.Own.{Ascends, Below, In, holds, used}
use Rattle.ut_own.proofs.UnionLemmas.{Ascends-at, IsAscending-from}
use Rattle.ut_unsorted.specs.FirstSeen.{keys_at}
use Rattle.ut_main.proofs.KeyLemmas.{holds-in, in-contains, contains-in, in-at, in-get, in-holds}
use Rattle.ut_dictmerge.specs.Merge.{place_of, places}
use Rattle.ut_dictmerge.proofs.PlaceLemmas.{place_found}
use Rattle.ut_merge.specs.Uniting.{new_flags, AreFound, IsFound, IsPlaceIn, IsUnited}
use Rattle.ut_merge.proofs.OwnLemmas.{length-places, places-none, used_one}

-- ---- which keys are new, one by one

new_flags-append : (stay xs ys : List (List ℕ)) (fs gs : List Bool) → length fs ≡ length xs → new_flags stay (xs ++ ys) (fs ++ gs) ≡ new_flags stay xs fs ++ new_flags stay ys gs
new_flags-append stay [] ys [] gs e = refl
new_flags-append stay [] ys (f ∷ fs) gs e = absurd (omega arith)
new_flags-append stay (x ∷ xs) ys [] gs e = absurd (omega arith)
new_flags-append stay (x ∷ xs) ys (f ∷ fs) gs e = ap (λ l. (f && not (holds stay x)) ∷ l) (new_flags-append stay xs ys fs gs (omega arith))

pub new_flags-more : (stay keys : List (List ℕ)) (flags : List Bool) (i : ℕ) → i < length keys → length flags ≡ length keys
    → new_flags stay (take (i + 1) keys) (take (i + 1) flags) ≡ new_flags stay (take i keys) (take i flags) ++ (get_or flags i false && not (holds stay (get_or keys i []))) ∷ []
new_flags-more stay keys flags i lt size =
    (λ k. new_flags stay (take_more keys i [] lt k) (take_more flags i false (omega arith) k))
    ∙ new_flags-append stay (take i keys) (get_or keys i [] ∷ []) (take i flags) (get_or flags i false ∷ []) (length-take-le i flags (omega arith) ∙ sym (length-take-le i keys (omega arith)))

-- what was found for one key more
pub found-more : (stay keys : List (List ℕ)) (flags : List Bool) (found new : List (Option ℕ)) (i : ℕ) (seen : Option ℕ) → i < length keys → length found ≡ i → AreFound stay (take i keys) flags found
    → IsFound stay (get_or keys i []) (get_or flags i false) seen → new ≡ found ++ seen ∷ [] → AreFound stay (take (i + 1) keys) flags new
found-more stay keys flags found new i seen lt size h here e j lt_j = elim (cases_lt j i) [
  | inl before ↦
      subst (λ (k : List ℕ). IsFound stay k (get_or flags j false) (get_or new j None)) (get_or-take i keys j [] before ∙ sym (get_or-take (i + 1) keys j [] (omega (arith, before))))
      (subst (λ (o : Option ℕ). IsFound stay (get_or (take i keys) j []) (get_or flags j false) o) (sym (ap (λ (l : List (Option ℕ)). get_or l j None) e ∙ get_or_append_left found (seen ∷ []) None j (omega (arith, before, size))))
      (h j (omega (arith, before, lt, length-take-le i keys (omega (arith, lt))))))
  | inr behind ↦
      let same : i ≡ j = omega (arith, behind, lt_j, length-take-le (i + 1) keys (omega (arith, lt))) in
      subst (λ n. IsFound stay (get_or (take (i + 1) keys) n []) (get_or flags n false) (get_or new n None)) same
      (subst (λ (k : List ℕ). IsFound stay k (get_or flags i false) (get_or new i None)) (sym (get_or-take (i + 1) keys i [] (omega arith)))
      (subst (λ (o : Option ℕ). IsFound stay (get_or keys i []) (get_or flags i false) o) (sym (ap (λ (l : List (Option ℕ)). get_or l i None) e ∙ get_or_at found seen [] None i size)) here))
]

-- a key that stands there is held, and one that doesn't isn't
pub holds-there : (keys : List (List ℕ)) (key : List ℕ) → Contains keys key → holds keys key ≡ true
holds-there keys key there = in-holds keys key (contains-in keys key there)

pub holds-lacking : (keys : List (List ℕ)) (key : List ℕ) → ¬ Contains keys key → holds keys key ≡ false
holds-lacking keys key lacks = by (holds keys key) refl
  where
    by : (b : Bool) → holds keys key ≡ b → b ≡ false
    by false e = refl
    by true e = absurd (lacks (in-contains keys key (holds-in keys key e)))

-- ---- some of ascending keys

below-filter : (keys : List (List ℕ)) (test : ℕ → Bool) (key : List ℕ) (codes : List ℕ) → Below key (keys_at keys codes) → Below key (keys_at keys (filter test codes))
below-filter keys test key [] b = tt
below-filter keys test key (c ∷ codes) b = by (test c) (below-filter keys test key codes b.1)
  where
    by : (t : Bool) → Below key (keys_at keys (filter test codes)) → Below key (keys_at keys (cond t (c ∷ filter test codes) (filter test codes)))
    by true rest = (b.0, rest)
    by false rest = rest

ascends-filter : (keys : List (List ℕ)) (test : ℕ → Bool) (codes : List ℕ) → Ascends (keys_at keys codes) → Ascends (keys_at keys (filter test codes))
ascends-filter keys test [] up = tt
ascends-filter keys test (c ∷ codes) up = by (test c) (ascends-filter keys test codes up.1)
  where
    by : (t : Bool) → Ascends (keys_at keys (filter test codes)) → Ascends (keys_at keys (cond t (c ∷ filter test codes) (filter test codes)))
    by true rest = (below-filter keys test (get_or keys c []) codes up.0, rest)
    by false rest = rest

pub ascending-filter : (keys : List (List ℕ)) (test : ℕ → Bool) (codes : List ℕ) → IsAscending (keys_at keys codes) → IsAscending (keys_at keys (filter test codes))
ascending-filter keys test codes up = IsAscending-from (keys_at keys (filter test codes)) (ascends-filter keys test codes (Ascends-at (keys_at keys codes) up))

-- ---- all places, in another order

pub permuted-within : (n : ℕ) (codes : List ℕ) → IsPermutation (range_with_len 0 n) codes → All (λ c. c < n) codes
permuted-within n codes moved =
    All-permutation (λ c. c < n) (range_with_len 0 n) codes moved (λ k d lt.
    let size = length-range_with_len 0 n in
    let e = get_or-range_with_len 0 n k d (omega (arith, lt, size)) in
    omega (arith, e, lt, size))

permuted-contains : (n : ℕ) (codes : List ℕ) → IsPermutation (range_with_len 0 n) codes → (c : ℕ) → c < n → Contains codes c
permuted-contains n codes moved c lt =
    let size = length-range_with_len 0 n in
    let zero_c : 0 + c ≡ c = omega arith in
    Contains-permutation (range_with_len 0 n) codes c moved
    (subst (λ x. Contains (range_with_len 0 n) x) (get_or-range_with_len 0 n c 0 lt ∙ zero_c) (Contains-get_or (range_with_len 0 n) c 0 (omega (arith, lt, size))))

-- ---- elements that pass a test

filter-in : {X : Type 0} (test : X → Bool) (xs : List X) (i : ℕ) (d : X) → i < length xs → test (get_or xs i d) ≡ true → (k : ℕ) × (k < length (filter test xs)) × (get_or (filter test xs) k d ≡ get_or xs i d)
filter-in test [] i d lt passes = absurd (omega arith)
filter-in test (x ∷ xs) zero d lt passes = by (test x) passes
  where
    by : (t : Bool) → t ≡ true → (k : ℕ) × (k < length (cond t (x ∷ filter test xs) (filter test xs))) × (get_or (cond t (x ∷ filter test xs) (filter test xs)) k d ≡ x)
    by true e = (0, omega arith, refl)
    by false e = absurd (true≢false (sym e))
filter-in test (x ∷ xs) (suc i) d lt passes = by (test x) (filter-in test xs i d (omega arith) passes)
  where
    by : (t : Bool) → (k : ℕ) × (k < length (filter test xs)) × (get_or (filter test xs) k d ≡ get_or xs i d) → (k : ℕ) × (k < length (cond t (x ∷ filter test xs) (filter test xs))) × (get_or (cond t (x ∷ filter test xs) (filter test xs)) k d ≡ get_or xs i d)
    by true r = (suc r.0, omega (arith, r.1), r.2)
    by false r = r

passes : {X : Type 0} (test : X → Bool) (xs : List X) (k : ℕ) (d : X) → k < length (filter test xs) → test (get_or (filter test xs) k d) ≡ true
passes test [] k d lt = absurd (omega arith)
passes test (x ∷ xs) k d lt = by (test x) refl (λ j less. passes test xs j d less) k lt
  where
    by : (t : Bool) → test x ≡ t → ((j : ℕ) → j < length (filter test xs) → test (get_or (filter test xs) j d) ≡ true)
        → (k : ℕ) → k < length (cond t (x ∷ filter test xs) (filter test xs)) → test (get_or (cond t (x ∷ filter test xs) (filter test xs)) k d) ≡ true
    by true e rest zero lt = e
    by true e rest (suc k) lt = rest k (omega arith)
    by false e rest k lt = rest k lt

pub filter-few : {X : Type 0} (test : X → Bool) (xs : List X) → length (filter test xs) ≤ length xs
filter-few test [] = omega arith
filter-few test (x ∷ xs) = by (test x) (filter-few test xs)
  where
    by : (t : Bool) → length (filter test xs) ≤ length xs → length (cond t (x ∷ filter test xs) (filter test xs)) ≤ suc (length xs)
    by true few = omega (arith, few)
    by false few = omega (arith, few)

pub filter-exactly : (n : ℕ) (test : ℕ → Bool) (codes : List ℕ) → IsPermutation (range_with_len 0 n) codes → (c : ℕ) → c < n → Contains (filter test codes) c ↔ (test c ≡ true)
filter-exactly n test codes moved c lt = (to, from)
  where
    to : Contains (filter test codes) c → test c ≡ true
    to h = ap test (sym h.2) ∙ passes test codes h.0 c h.1

    from : test c ≡ true → Contains (filter test codes) c
    from h =
        let at = permuted-contains n codes moved c lt in
        let r = filter-in test codes at.0 c at.1 (ap test at.2 ∙ h) in
        (r.0, r.1, r.2 ∙ at.2)

-- ---- the dictionary of new keys

place-here : (all keys : List (List ℕ)) (flags : List Bool) (i : ℕ) → i < length keys → get_or flags i false ≡ true → get_or (places all keys flags) i None ≡ Some (place_of (get_or keys i []) all)
place-here all [] flags i lt h = absurd (omega arith)
place-here all (key ∷ keys) [] i lt h = absurd (true≢false (sym h))
place-here all (key ∷ keys) (true ∷ flags) zero lt h = refl
place-here all (key ∷ keys) (false ∷ flags) zero lt h = absurd (true≢false (sym h))
place-here all (key ∷ keys) (true ∷ flags) (suc i) lt h = place-here all keys flags i (omega arith) h
place-here all (key ∷ keys) (false ∷ flags) (suc i) lt h = place-here all keys flags i (omega arith) h

used_at : (keys : List (List ℕ)) (flags : List Bool) (key : List ℕ) → In key (used keys flags) → (i : ℕ) × (i < length keys) × (get_or flags i false ≡ true) × (key ≡ get_or keys i [])
used_at [] flags key h = absurd h
used_at (x ∷ keys) [] key h = absurd h
used_at (x ∷ keys) (true ∷ flags) key (inl h) = (0, omega arith, refl, h)
used_at (x ∷ keys) (true ∷ flags) key (inr h) = let r = used_at keys flags key h in (suc r.0, omega (arith, r.1), r.2, r.3)
used_at (x ∷ keys) (false ∷ flags) key h = let r = used_at keys flags key h in (suc r.0, omega (arith, r.1), r.2, r.3)

-- the places of one code more
pub place-more : (codes : List ℕ) (place here : ℕ) (entries : List (Option ℕ)) → place < length codes → here ≡ get_or codes place 0 → here < length entries
    → ((code : ℕ) → code < length entries → IsPlaceIn (take place codes) code (get_or entries code None)) → (code : ℕ) → code < length entries → IsPlaceIn (take (place + 1) codes) code (get_or (set entries here (Some place)) code None)
place-more codes place here entries lt at low h code lt_code = elim (eqb_tells code here) [
  | inl same ↦
      subst (λ n. IsPlaceIn (take (place + 1) codes) n (get_or (set entries here (Some place)) n None)) (sym same.1)
      (subst (λ (o : Option ℕ). IsPlaceIn (take (place + 1) codes) here o) (sym (get_or-set_same entries here (Some place) None low))
      (omega (arith, length-take-le (place + 1) codes (omega (arith, lt))), get_or-take (place + 1) codes place 0 (omega arith) ∙ sym at))
  | inr apart ↦
      subst (λ (o : Option ℕ). IsPlaceIn (take (place + 1) codes) code o) (sym (get_or-set_other entries here code (Some place) None apart.1))
      (wider (get_or entries code None) (h code lt_code) apart.1)
]
  where
    size : length (take (place + 1) codes) ≡ place + 1
    size = length-take-le (place + 1) codes (omega (arith, lt))

    shorter : length (take place codes) ≡ place
    shorter = length-take-le place codes (omega (arith, lt))

    wider : (o : Option ℕ) → IsPlaceIn (take place codes) code o → code ≢ here → IsPlaceIn (take (place + 1) codes) code o
    wider (Some p) r other =
        (omega (arith, r.0, size, shorter), get_or-take (place + 1) codes p 0 (omega (arith, r.0, shorter)) ∙ sym (get_or-take place codes p 0 (omega (arith, r.0, shorter))) ∙ r.1)
    wider None r other = λ p lt_p e. elim (cases_lt p place) [
      | inl before ↦ r p (omega (arith, before, shorter)) (get_or-take place codes p 0 before ∙ sym (get_or-take (place + 1) codes p 0 (omega (arith, before))) ∙ e)
      | inr behind ↦
          let last : p ≡ place = omega (arith, behind, lt_p, size) in
          other (sym e ∙ get_or-take (place + 1) codes p 0 (omega (arith, lt_p, size)) ∙ ap (λ n. get_or codes n 0) last ∙ sym at)
    ]

module _ (closed : List (List ℕ)) (new : List Bool) (codes : List ℕ) (keys : List (List ℕ)) (entries : List (Option ℕ)) (size : length new ≡ length closed) (within : All (λ c. c < length closed) codes)
    (exactly : (c : ℕ) → c < length closed → Contains codes c ↔ (get_or new c false ≡ true)) (rising : IsAscending (keys_at closed codes)) (few_codes : length codes ≤ length closed)
    (are : keys ≡ keys_at closed codes) (sizes : length entries ≡ length closed) (at : (c : ℕ) → c < length closed → IsPlaceIn codes c (get_or entries c None)) where
  up : Ascends keys
  up = subst Ascends (sym are) (Ascends-at (keys_at closed codes) rising)

  length-keys : length keys ≡ length codes
  length-keys = ap (λ (l : List (List ℕ)). length l) are ∙ length-map codes (λ c. get_or closed c [])

  key-at : (k : ℕ) → k < length codes → get_or keys k [] ≡ get_or closed (get_or codes k 0) []
  key-at k lt = ap (λ (l : List (List ℕ)). get_or l k []) are ∙ get_or-map (λ c. get_or closed c []) codes k 0 [] lt

  code-in : (k : ℕ) → k < length codes → Contains codes (get_or codes k 0)
  code-in k lt = Contains-get_or codes k 0 lt

  to : (key : List ℕ) → In key keys → In key (used closed new)
  to key there =
      let r = in-get keys key there in
      let lt : r.0 < length codes = omega (arith, r.1, length-keys) in
      let c = get_or codes r.0 0 in
      let low : get_or codes r.0 0 < length closed = within r.0 0 lt in
      subst (λ (k : List ℕ). In k (used closed new)) (sym (r.2 ∙ key-at r.0 lt)) (used_one closed new c low ((exactly c low).0 (code-in r.0 lt)))

  from : (key : List ℕ) → In key (used closed new) → In key keys
  from key there =
      let r = used_at closed new key there in
      let h = (exactly r.0 r.1).1 r.2 in
      let lt : h.0 < length keys = omega (arith, h.1, length-keys) in
      let code : get_or codes h.0 0 ≡ r.0 = get_or_default codes h.0 0 r.0 h.1 ∙ h.2 in
      subst (λ (k : List ℕ). In k keys) (key-at h.0 h.1 ∙ ap (λ c. get_or closed c []) code ∙ sym r.3) (in-at keys h.0 lt)

  entry : (c : ℕ) → c < length closed → get_or entries c None ≡ get_or (places keys closed new) c None
  entry c lt = by (get_or new c false) refl (get_or entries c None) refl (at c lt)
    where
      by : (b : Bool) → get_or new c false ≡ b → (o : Option ℕ) → get_or entries c None ≡ o → IsPlaceIn codes c o → get_or entries c None ≡ get_or (places keys closed new) c None
      by true e (Some p) eo h =
          let lt_p : p < length keys = omega (arith, h.0, length-keys) in
          let here : get_or keys p [] ≡ get_or closed c [] = key-at p h.0 ∙ ap (λ n. get_or closed n []) h.1 in
          let place : place_of (get_or closed c []) keys ≡ p = ap (λ k. place_of k keys) (sym here) ∙ place_found keys p up lt_p in
          eo ∙ sym (place-here keys closed new c lt e ∙ ap (λ n. Some n) place)
      by true e None eo h = let r = (exactly c lt).1 e in absurd (h r.0 r.1 (get_or_default codes r.0 0 c r.1 ∙ r.2))
      by false e (Some p) eo h = absurd (true≢false (sym ((exactly c lt).0 (p, h.0, get_or_default codes p c 0 h.0 ∙ h.1)) ∙ e))
      by false e None eo h = eo ∙ sym (places-none keys closed new c e)

  pub new-united : IsUnited [] [] closed new keys [] entries
  new-united = record {
    ascending = subst IsAscending (sym are) rising;
    exactly = λ key. (λ there. inr (to key there), λ h. elim h [ inl none ↦ absurd none | inr there ↦ from key there ]);
    places_parts = refl;
    places_closed =
        same_lists entries (places keys closed new) (sizes ∙ sym (length-places keys closed new size)) (λ k d lt.
        let low : k < length closed = omega (arith, lt, sizes) in
        let long = length-places keys closed new size in
        get_or_default entries k d None lt ∙ entry k low ∙ get_or_default (places keys closed new) k None d (omega (arith, low, long)));
    few = omega (arith, length-keys, few_codes);
  }

-- the steps of one search more
pub steps_so_far : (most code initial now new : ℕ) → now ≤ initial + code * most → new ≤ now + most → new ≤ initial + (code + 1) * most
steps_so_far most code initial now new h n = omega (arith, h, n)

pub steps_in_all : (most code n initial new : ℕ) → code ≤ n → new ≤ initial + code * most → new ≤ initial + n * most
steps_in_all most code n initial new le h =
    let more = mul-le-mul_left most le in
    omega (arith, h, more)
