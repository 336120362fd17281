-- A dictionary put together, one dictionary after the other.
use Rattle.std.proofs.Common.{◌≡◌, ◌⊎◌, inl, inr, ℕ, zero, suc, ◌+◌, ◌<◌, ◌≤◌, List, [], ◌∷◌, ◌++◌, length, map, get_or, replicate, refl, sym, ◌∙◌, ap, subst, arith, Bool, true, false, Option, Some, None}
use Rattle.std.proofs.lemmas.List.{length-append}
use Rattle.ut_key.specs.Keys.{key_cmp}
use Rattle.ut_own.specs.Own.{Ascends, In, insert_key, placed, union, used}
use Rattle.ut_own.proofs.UnionLemmas.{Ascends-at, used-append}
use Rattle.ut_dictmerge.specs.Merge.{place_of, places, IsMerge}
use Rattle.ut_dictmerge.proofs.PlaceLemmas.{place_found}
use Rattle.ut_main.proofs.KeyLemmas.{in-get, in-left, in-right}
use Rattle.std.specs.declared.cmp.Ordering.{Ordering}
use Rattle.std.specs.declared.cmp.Ordering.TheVariants.{Less, Equal, Greater}
use Rattle.ut_merge.specs.Uniting.{led, IsUnited}

-- ---- keys of which all are used

used-all : (keys : List (List ℕ)) → used keys (replicate (length keys) true) ≡ keys
used-all [] = refl
used-all (key ∷ keys) = ap (λ l. key ∷ l) (used-all keys)

place-all : (all keys : List (List ℕ)) (i : ℕ) → i < length keys → get_or (places all keys (replicate (length keys) true)) i None ≡ Some (place_of (get_or keys i []) all)
place-all all [] i lt = absurd (omega arith)
place-all all (key ∷ keys) zero lt = refl
place-all all (key ∷ keys) (suc i) lt = place-all all keys i (omega arith)

-- ---- places

-- a key of ascending keys stands at its place
pub at-place : (keys : List (List ℕ)) (key : List ℕ) → Ascends keys → In key keys → (place_of key keys < length keys) × (get_or keys (place_of key keys) [] ≡ key)
at-place keys key up there =
    let r = in-get keys key there in
    let at : place_of key keys ≡ r.0 = ap (λ k. place_of k keys) r.2 ∙ place_found keys r.0 up r.1 in
    (omega (arith, at, r.1), ap (λ n. get_or keys n []) at ∙ sym r.2)

pub places-append : (all xs ys : List (List ℕ)) (fs gs : List Bool) → length fs ≡ length xs → places all (xs ++ ys) (fs ++ gs) ≡ places all xs fs ++ places all ys gs
places-append all [] ys [] gs e = refl
places-append all [] ys (f ∷ fs) gs e = absurd (omega arith)
places-append all (x ∷ xs) ys [] gs e = absurd (omega arith)
places-append all (x ∷ xs) ys (true ∷ fs) gs e = ap (λ l. Some (place_of x all) ∷ l) (places-append all xs ys fs gs (omega arith))
places-append all (x ∷ xs) ys (false ∷ fs) gs e = ap (λ l. None ∷ l) (places-append all xs ys fs gs (omega arith))

-- places among more keys are those among fewer, led on
pub places-led : (all keys xs : List (List ℕ)) (fs : List Bool) → Ascends keys → ((key : List ℕ) → In key (used xs fs) → In key keys)
    → places all xs fs ≡ map (led (places all keys (replicate (length keys) true))) (places keys xs fs)
places-led all keys [] fs up there = refl
places-led all keys (x ∷ xs) [] up there = refl
places-led all keys (x ∷ xs) (true ∷ fs) up there =
    let at = at-place keys x up (there x (inl refl)) in
    let first : Some (place_of x all) ≡ get_or (places all keys (replicate (length keys) true)) (place_of x keys) None = sym (place-all all keys (place_of x keys) at.0 ∙ ap (λ k. Some (place_of k all)) at.1) in
    let rest = places-led all keys xs fs up (λ key h. there key (inr h)) in
    λ i. first i ∷ rest i
places-led all keys (x ∷ xs) (false ∷ fs) up there = ap (λ l. None ∷ l) (places-led all keys xs fs up there)

-- ---- how many keys there are

placed-few : (o : Ordering) (key first : List ℕ) (rest inserted : List (List ℕ)) → length inserted ≤ suc (length rest) → length (placed o key first rest inserted) ≤ suc (suc (length rest))
placed-few Less key first rest inserted h = omega arith
placed-few Equal key first rest inserted h = omega arith
placed-few Greater key first rest inserted h = omega arith

insert-few : (key : List ℕ) (keys : List (List ℕ)) → length (insert_key key keys) ≤ suc (length keys)
insert-few key [] = omega arith
insert-few key (first ∷ rest) = placed-few (key_cmp key first) key first rest (insert_key key rest) (insert-few key rest)

union-few : (xs ys : List (List ℕ)) → length (union xs ys) ≤ length xs + length ys
union-few [] ys = omega arith
union-few (x ∷ xs) ys = let more = union-few xs ys in let one = insert-few x (union xs ys) in omega (arith, more, one)

pub used-few : (keys : List (List ℕ)) (flags : List Bool) → length (used keys flags) ≤ length keys
used-few [] flags = omega arith
used-few (key ∷ keys) [] = omega arith
used-few (key ∷ keys) (true ∷ flags) = let more = used-few keys flags in omega (arith, more)
used-few (key ∷ keys) (false ∷ flags) = let more = used-few keys flags in omega (arith, more)

-- ---- one dictionary more

in-split : (key : List ℕ) (xs ys : List (List ℕ)) → In key (xs ++ ys) → In key xs ⊎ In key ys
in-split key [] ys h = inr h
in-split key (x ∷ xs) ys (inl same) = inl (inl same)
in-split key (x ∷ xs) ys (inr there) = elim (in-split key xs ys there) [ inl a ↦ inl (inr a) | inr b ↦ inr b ]

module _ (parts : List (List ℕ)) (used_parts : List Bool) (closed : List (List ℕ)) (new : List Bool) (keys : List (List ℕ)) (from_parts from_closed : List (Option ℕ)) (dict : List (List ℕ)) (flags : List Bool) (merged : List (List ℕ)) (from_a from_b : List (Option ℕ))
    (h : IsUnited parts used_parts closed new keys from_parts from_closed) (m : IsMerge keys (replicate (length keys) true) dict flags merged from_a from_b) (sizes : length used_parts ≡ length parts) where
  up : Ascends keys
  up = Ascends-at keys h.ascending

  split : used (parts ++ dict) (used_parts ++ flags) ≡ used parts used_parts ++ used dict flags
  split = used-append parts dict used_parts flags (sym sizes)

  to : (key : List ℕ) → In key merged → In key (used (parts ++ dict) (used_parts ++ flags)) ⊎ In key (used closed new)
  to key there = elim ((m.exactly key).0 there) [
    | inl old ↦ elim ((h.exactly key).0 (subst (λ (l : List (List ℕ)). In key l) (used-all keys) old)) [
      | inl part ↦ inl (subst (λ (l : List (List ℕ)). In key l) (sym split) (in-left key (used parts used_parts) (used dict flags) part))
      | inr close ↦ inr close
    ]
    | inr more ↦ inl (subst (λ (l : List (List ℕ)). In key l) (sym split) (in-right key (used parts used_parts) (used dict flags) more))
  ]

  old_one : (key : List ℕ) → In key keys → In key merged
  old_one key there = (m.exactly key).1 (inl (subst (λ (l : List (List ℕ)). In key l) (sym (used-all keys)) there))

  from : (key : List ℕ) → In key (used (parts ++ dict) (used_parts ++ flags)) ⊎ In key (used closed new) → In key merged
  from key (inl part) = elim (in-split key (used parts used_parts) (used dict flags) (subst (λ (l : List (List ℕ)). In key l) split part)) [
    | inl old ↦ old_one key ((h.exactly key).1 (inl old))
    | inr more ↦ (m.exactly key).1 (inr more)
  ]
  from key (inr close) = old_one key ((h.exactly key).1 (inr close))

  pub united-more : IsUnited (parts ++ dict) (used_parts ++ flags) closed new merged (map (led from_a) from_parts ++ from_b) (map (led from_a) from_closed)
  united-more = record {
    ascending = m.ascending;
    exactly = λ key. (to key, from key);
    places_parts =
        ap (λ f. map (led f) from_parts ++ from_b) m.places_a
        ∙ ap (λ l. map (led (places merged keys (replicate (length keys) true))) l ++ from_b) h.places_parts
        ∙ (λ i. sym (places-led merged keys parts used_parts up (λ key there. (h.exactly key).1 (inl there))) i ++ m.places_b i)
        ∙ sym (places-append merged parts dict used_parts flags sizes);
    places_closed =
        ap (λ f. map (led f) from_closed) m.places_a
        ∙ ap (λ l. map (led (places merged keys (replicate (length keys) true))) l) h.places_closed
        ∙ sym (places-led merged keys closed new up (λ key there. (h.exactly key).1 (inr there)));
    few =
        let count : length merged ≤ length (used keys (replicate (length keys) true)) + length (used dict flags) = subst (λ (l : List (List ℕ)). length l ≤ length (used keys (replicate (length keys) true)) + length (used dict flags)) (sym m.keys_are) (union-few (used keys (replicate (length keys) true)) (used dict flags)) in
        let a = ap (λ (l : List (List ℕ)). length l) (used-all keys) in
        let b = used-few dict flags in
        let c = h.few in
        let d = length-append parts dict in
        omega (arith, count, a, b, c, d);
  }
