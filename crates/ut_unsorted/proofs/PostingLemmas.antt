-- The postings after one of them has changed.
use Rattle.std.proofs.Common.{◌≡◌, ℕ, zero, suc, ◌+◌, ◌-◌, ◌<◌, ◌≤◌, ◌≢◌, List, [], ◌∷◌, ◌++◌, length, map, get_or, set, ap, sym, ◌∙◌, subst, arith, refl}
use Rattle.std.proofs.lemmas.List.{map-set, get_or-map, length-map, get_or-set_same, get_or-set_other, length-append}
use Rattle.smallvec.specs.SmallVec.{SmallVec}
use Rattle.ut_unsorted.specs.Posted.{Posting, posting_of, none, places_at, room_at}

pub room-within : (xs : List (SmallVec ℕ)) (i : ℕ) → 0 < room_at (map posting_of xs) i → i < length xs
room-within [] i h = absurd (omega (arith, h))
room-within (x ∷ xs) zero h = omega arith
room-within (x ∷ xs) (suc i) h = let r = room-within xs i h in omega arith

pub places-within : (xs : List (SmallVec ℕ)) (i : ℕ) → places_at (map posting_of xs) i ≢ [] → i < length xs
places-within [] i h = absurd (h refl)
places-within (x ∷ xs) zero h = omega arith
places-within (x ∷ xs) (suc i) h = let r = places-within xs i h in omega arith

pub set-same : (xs : List (SmallVec ℕ)) (i : ℕ) (v : SmallVec ℕ) → i < length xs → get_or (map posting_of (set xs i v)) i none ≡ posting_of v
set-same xs i v h =
    let lt : i < length (map posting_of xs) = omega (arith, length-map xs posting_of) in
    ap (λ l. get_or l i none) (map-set posting_of xs i v) ∙ get_or-set_same (map posting_of xs) i (posting_of v) none lt

pub set-other : (xs : List (SmallVec ℕ)) (i k : ℕ) (v : SmallVec ℕ) → k ≢ i → get_or (map posting_of (set xs i v)) k none ≡ get_or (map posting_of xs) k none
set-other xs i k v h = ap (λ l. get_or l k none) (map-set posting_of xs i v) ∙ get_or-set_other (map posting_of xs) i k (posting_of v) none h

module _ (xs : List (SmallVec ℕ)) (p : List Posting) (i : ℕ) (old new : SmallVec ℕ) (e : map posting_of xs ≡ p) (is : old ≡ get_or xs i old) where
  pub at-old : i < length xs → posting_of old ≡ get_or p i none
  at-old lt = ap posting_of is ∙ sym (get_or-map posting_of xs i old none lt) ∙ ap (λ q. get_or q i none) e

  pub added : (x : ℕ) → 0 < room_at p i → new.items ≡ old.items ++ x ∷ [] → places_at (map posting_of (set xs i new)) i ≡ places_at p i ++ x ∷ []
  added x room items =
      let lt : i < length xs = room-within xs i (subst (λ q. 0 < room_at q i) (sym e) room) in
      ap (λ q. q.places) (set-same xs i new lt) ∙ items ∙ ap (λ q. q.places ++ x ∷ []) (at-old lt)

  pub less_room : (x : ℕ) → 0 < room_at p i → new.items ≡ old.items ++ x ∷ [] → new.capacity ≡ old.capacity → room_at (map posting_of (set xs i new)) i + 1 ≡ room_at p i
  less_room x room items cap =
      let lt : i < length xs = room-within xs i (subst (λ q. 0 < room_at q i) (sym e) room) in
      let a : room_at (map posting_of (set xs i new)) i ≡ new.capacity - length new.items = ap (λ q. q.room) (set-same xs i new lt) in
      let b : old.capacity - length old.items ≡ room_at p i = ap (λ q. q.room) (at-old lt) in
      let n : length new.items ≡ length old.items + 1 = ap length items ∙ length-append old.items (x ∷ []) in
      omega arith

  pub same_others : (k : ℕ) → k ≢ i → places_at (map posting_of (set xs i new)) k ≡ places_at p k
  same_others k h = ap (λ q. q.places) (set-other xs i k new h) ∙ ap (λ q. places_at q k) e

  pub shorter : (front : List ℕ) → places_at p i ≢ [] → (places_at p i ≡ old.items → new.items ≡ front) → places_at (map posting_of (set xs i new)) i ≡ front
  shorter front some items =
      let lt : i < length xs = places-within xs i (λ no_places. some (ap (λ q. places_at q i) (sym e) ∙ no_places)) in
      ap (λ q. q.places) (set-same xs i new lt) ∙ items (sym (ap (λ q. q.places) (at-old lt)))

-- one more empty list
pub one_more : (xs : List (SmallVec ℕ)) (v : SmallVec ℕ) (k : ℕ) → v.items ≡ [] → places_at (map posting_of (xs ++ v ∷ [])) k ≡ places_at (map posting_of xs) k
one_more [] v zero h = h
one_more [] v (suc k) h = refl
one_more (x ∷ xs) v zero h = refl
one_more (x ∷ xs) v (suc k) h = one_more xs v k h

pub same_places : (xs : List (SmallVec ℕ)) (i k : ℕ) (old new : SmallVec ℕ) → new.items ≡ (get_or xs i old).items → places_at (map posting_of (set xs i new)) k ≡ places_at (map posting_of xs) k
same_places [] i k old new h = refl
same_places (x ∷ xs) zero zero old new h = h
same_places (x ∷ xs) zero (suc k) old new h = refl
same_places (x ∷ xs) (suc i) zero old new h = refl
same_places (x ∷ xs) (suc i) (suc k) old new h = same_places xs i k old new h

pub room_enough : (xs : List (SmallVec ℕ)) (i n : ℕ) (new : SmallVec ℕ) → i < length xs → length new.items + n ≤ new.capacity → n ≤ room_at (map posting_of (set xs i new)) i
room_enough xs i n new lt h = let e : room_at (map posting_of (set xs i new)) i ≡ new.capacity - length new.items = ap (λ q. q.room) (set-same xs i new lt) in omega arith
