-- The place of a key among ascending keys is where it stands.
use Rattle.std.proofs.Common.{◌≡◌, ℕ, zero, suc, ◌+◌, ◌-◌, ◌<◌, List, [], ◌∷◌, length, get_or, refl, sym, ◌∙◌, ap, subst, arith, Bool, true, false, Option, Some, None, inl, inr, true≢false}
use Rattle.std.proofs.lemmas.Cmp.{nat_list_cmp_total, tied_itself}
use Rattle.ut_own.specs.Own.{Ascends, In}
use Rattle.ut_own.proofs.UnionLemmas.{turned, Below-get_or}
use Rattle.ut_dictmerge.specs.Merge.{place_of, place_behind, places}
use Rattle.ut_dictmerge.specs.Pieces.{IsPlace, ArePlaces}

pub place_found : (dict : List (List ℕ)) (p : ℕ) → Ascends dict → p < length dict → place_of (get_or dict p []) dict ≡ p
place_found [] p h lt = absurd (omega arith)
place_found (d ∷ ds) zero h lt = ap (λ o. place_behind o (place_of d ds)) (tied_itself nat_list_cmp_total d)
place_found (d ∷ ds) (suc p) h lt =
    ap (λ o. place_behind o (place_of (get_or ds p []) ds)) (turned d (get_or ds p []) (Below-get_or d ds p h.0 (omega arith)))
    ∙ ap (λ n. suc n) (place_found ds p h.1 (omega arith))

one_place : (dict : List (List ℕ)) (key : List ℕ) (p : ℕ) → Ascends dict → p < length dict → get_or dict p [] ≡ key → p ≡ place_of key dict
one_place dict key p h lt e = sym (place_found dict p h lt) ∙ ap (λ k. place_of k dict) e

tail : (dict : List (List ℕ)) (key : List ℕ) (keys : List (List ℕ)) (f : Bool) (fs : List Bool) (e : Option ℕ) (es : List (Option ℕ)) → ArePlaces 0 dict (key ∷ keys) (f ∷ fs) 0 (e ∷ es) → ArePlaces 0 dict keys fs 0 es
tail dict key keys f fs e es h = λ i lt.
    let at : 0 + suc i ≡ suc i = omega arith in
    let at' : i ≡ 0 + i = omega arith in
    subst (λ (n : ℕ). IsPlace 0 dict (get_or keys n []) (get_or fs n false) (get_or es i None)) at'
    (subst (λ (n : ℕ). IsPlace 0 dict (get_or (key ∷ keys) n []) (get_or (f ∷ fs) n false) (get_or es i None)) at (h (suc i) (omega arith)))

-- the entries are the places
pub places_are : (dict keys : List (List ℕ)) (flags : List Bool) (es : List (Option ℕ)) → Ascends dict → length flags ≡ length keys → length es ≡ length keys → ArePlaces 0 dict keys flags 0 es → es ≡ places dict keys flags
places_are dict [] flags [] up f e h = refl
places_are dict [] flags (x ∷ es) up f e h = absurd (omega arith)
places_are dict (k ∷ ks) [] es up f e h = absurd (omega arith)
places_are dict (k ∷ ks) (f ∷ fs) [] up l e h = absurd (omega arith)
places_are dict (k ∷ ks) (true ∷ fs) (Some p ∷ es) up l e h =
    let here = h 0 (omega arith) in
    let at : p - 0 ≡ p = omega arith in
    ap (λ n. Some n ∷ es) (one_place dict k p up (omega (arith, here.1)) (ap (λ (n : ℕ). get_or dict n []) (sym at) ∙ here.2))
    ∙ ap (λ m. Some (place_of k dict) ∷ m) (places_are dict ks fs es up (omega arith) (omega arith) (tail dict k ks true fs (Some p) es h))
places_are dict (k ∷ ks) (true ∷ fs) (None ∷ es) up l e h = absurd (h 0 (omega arith))
places_are dict (k ∷ ks) (false ∷ fs) (x ∷ es) up l e h =
    ap (λ m. m ∷ es) (h 0 (omega arith)) ∙ ap (λ m. None ∷ m) (places_are dict ks fs es up (omega arith) (omega arith) (tail dict k ks false fs x es h))

-- a key that stands there is at its place
place-in : (dict : List (List ℕ)) (key : List ℕ) → Ascends dict → In key dict → (place_of key dict < length dict) × (get_or dict (place_of key dict) [] ≡ key)
place-in dict key up h = by (at dict key h)
  where
    at : (ks : List (List ℕ)) (k : List ℕ) → In k ks → (p : ℕ) × (p < length ks) × (get_or ks p [] ≡ k)
    at [] k h = absurd h
    at (x ∷ ks) k (inl e) = (0, omega arith, sym e)
    at (x ∷ ks) k (inr h) = let r = at ks k h in (suc r.0, omega (arith, r.1), r.2)

    by : (p : ℕ) × (p < length dict) × (get_or dict p [] ≡ key) → (place_of key dict < length dict) × (get_or dict (place_of key dict) [] ≡ key)
    by r =
        let e : r.0 ≡ place_of key dict = one_place dict key r.0 up r.1 r.2 in
        subst (λ (n : ℕ). (n < length dict) × (get_or dict n [] ≡ key)) e (r.1, r.2)

-- The entry of a used key points at the key.
pub places-at : (dict keys : List (List ℕ)) (flags : List Bool) (i : ℕ) → Ascends dict → i < length keys → get_or flags i false ≡ true → In (get_or keys i []) dict
    → (p : ℕ) × (get_or (places dict keys flags) i None ≡ Some p) × (p < length dict) × (get_or dict p [] ≡ get_or keys i [])
places-at dict [] flags i up lt f h = absurd (omega arith)
places-at dict (k ∷ ks) [] i up lt f h = absurd (true≢false (sym f))
places-at dict (k ∷ ks) (true ∷ fs) zero up lt f h = let r = place-in dict k up h in (place_of k dict, refl, r.0, r.1)
places-at dict (k ∷ ks) (false ∷ fs) zero up lt f h = absurd (true≢false (sym f))
places-at dict (k ∷ ks) (true ∷ fs) (suc i) up lt f h = places-at dict ks fs i up (omega (arith, lt)) f h
places-at dict (k ∷ ks) (false ∷ fs) (suc i) up lt f h = places-at dict ks fs i up (omega (arith, lt)) f h
