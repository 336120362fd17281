-- The dictionary that was put together is the own one of its column, and old codes lead to the codes of the same keys.
use Rattle.std.proofs.Common.{◌≡◌, ◌⊎◌, inl, inr, ℕ, zero, suc, ◌+◌, ◌-◌, ◌<◌, List, [], ◌∷◌, ◌++◌, length, map, get_or, refl, sym, ◌∙◌, ap, subst, arith, Bool, true, false, not, ◌&&◌, nat_eq, Option, Some, None, true≢false}
use Rattle.std.specs.List.{list_any, range_with_len}
use Rattle.std.proofs.lemmas.Bool.{or_cases, eqb-true, cases_lt}
use Rattle.std.proofs.lemmas.List.{get_or_append_left, get_or-append_right, get_or-append-add, get_or-map, length-append, length-map}
use Rattle.std.proofs.lemmas.List.FromFn.{length-map-range_with_len, get_or-map-range_with_len}
use Rattle.ut_bits.specs.Bits.{AllBelow}
use Rattle.ut_own.specs.Own.{holds, used, own_dict, cells_of, In, Ascends}
use Rattle.ut_own.proofs.UnionLemmas.{Ascends-at, used-append}
use Rattle.ut_own.proofs.ColumnLemmas.{column_own}
use Rattle.ut_dictmerge.specs.Merge.{places}
use Rattle.ut_dictmerge.proofs.PlaceLemmas.{places-at}
use Rattle.ut_main.specs.Columns.{AreDistinct}
use Rattle.ut_main.proofs.KeyLemmas.{holds-in, in-get, in-left, in-right}
use Rattle.ut_recode.specs.Recode.{with_staying}
use Rattle.ut_merge.specs.Uniting.{new_flags, AreFound, IsUnited, behind, chosen, chosen_all, entries_of}

-- ---- codes that occur

pub any-below : (n c : ℕ) (codes : List ℕ) → AllBelow n codes → list_any (nat_eq c) codes ≡ true → c < n
any-below n c [] low h = absurd (true≢false (sym h))
any-below n c (d ∷ codes) low h = elim (or_cases (nat_eq c d) (list_any (nat_eq c) codes) h) [
  | inl here ↦ let e = eqb-true c d here in omega (arith, e, low.0)
  | inr there ↦ any-below n c codes low.1 there
]

-- ---- flags

pub length-new_flags : (stay keys : List (List ℕ)) (flags : List Bool) → length flags ≡ length keys → length (new_flags stay keys flags) ≡ length keys
length-new_flags stay [] flags e = refl
length-new_flags stay (key ∷ keys) [] e = absurd (omega arith)
length-new_flags stay (key ∷ keys) (flag ∷ flags) e = ap suc (length-new_flags stay keys flags (omega arith))

new-at : (stay keys : List (List ℕ)) (flags : List Bool) (i : ℕ) → length flags ≡ length keys → i < length keys → get_or (new_flags stay keys flags) i false ≡ (get_or flags i false && not (holds stay (get_or keys i [])))
new-at stay [] flags i e lt = absurd (omega arith)
new-at stay (key ∷ keys) [] i e lt = absurd (omega arith)
new-at stay (key ∷ keys) (flag ∷ flags) zero e lt = refl
new-at stay (key ∷ keys) (flag ∷ flags) (suc i) e lt = new-at stay keys flags i (omega arith) (omega arith)

and-true : (a : Bool) → a ≡ (a && true)
and-true true = refl
and-true false = refl

-- no place where no flag is
pub places-none : (all keys : List (List ℕ)) (flags : List Bool) (i : ℕ) → get_or flags i false ≡ false → get_or (places all keys flags) i None ≡ None
places-none all [] flags i h = refl
places-none all (key ∷ keys) [] i h = refl
places-none all (key ∷ keys) (true ∷ flags) zero h = absurd (true≢false h)
places-none all (key ∷ keys) (false ∷ flags) zero h = refl
places-none all (key ∷ keys) (true ∷ flags) (suc i) h = places-none all keys flags i h
places-none all (key ∷ keys) (false ∷ flags) (suc i) h = places-none all keys flags i h

pub length-places : (all keys : List (List ℕ)) (flags : List Bool) → length flags ≡ length keys → length (places all keys flags) ≡ length keys
length-places all [] flags e = refl
length-places all (key ∷ keys) [] e = absurd (omega arith)
length-places all (key ∷ keys) (true ∷ flags) e = ap suc (length-places all keys flags (omega arith))
length-places all (key ∷ keys) (false ∷ flags) e = ap suc (length-places all keys flags (omega arith))

chosen-at : (start : ℕ) (places found : List (Option ℕ)) (i : ℕ) → length found ≡ length places → i < length places → get_or (chosen_all start places found) i None ≡ chosen start (get_or places i None) (get_or found i None)
chosen-at start [] found i e lt = absurd (omega arith)
chosen-at start (p ∷ ps) [] i e lt = absurd (omega arith)
chosen-at start (p ∷ ps) (f ∷ fs) zero e lt = refl
chosen-at start (p ∷ ps) (f ∷ fs) (suc i) e lt = chosen-at start ps fs i (omega arith) (omega arith)

pub used_one : (keys : List (List ℕ)) (flags : List Bool) (i : ℕ) → i < length keys → get_or flags i false ≡ true → In (get_or keys i []) (used keys flags)
used_one [] flags i lt h = absurd (omega arith)
used_one (key ∷ keys) [] i lt h = absurd (true≢false (sym h))
used_one (key ∷ keys) (true ∷ flags) zero lt h = inl refl
used_one (key ∷ keys) (true ∷ flags) (suc i) lt h = inr (used_one keys flags i (omega arith) h)
used_one (key ∷ keys) (false ∷ flags) zero lt h = absurd (true≢false (sym h))
used_one (key ∷ keys) (false ∷ flags) (suc i) lt h = used_one keys flags i (omega arith) h

-- ---- a column

module _ (stay parts closed : List (List ℕ)) (codes : List ℕ) (used_parts used_closed : List Bool) (keys : List (List ℕ)) (from_parts from_closed found : List (Option ℕ))
    (h : IsUnited parts used_parts closed (new_flags stay closed used_closed) keys from_parts from_closed) (size_parts : length used_parts ≡ length parts) (size_closed : length used_closed ≡ length closed) (size_found : length found ≡ length closed)
    (marked : (i : ℕ) → i < length parts + length closed → get_or (used_parts ++ used_closed) i false ≡ list_any (nat_eq (length stay + i)) codes)
    (below : AllBelow (length stay + (length parts + length closed)) codes) (apart : AreDistinct (stay ++ parts)) (is_found : AreFound stay closed used_closed found) where
  abbrev laid : List (List ℕ)
  laid = stay ++ (parts ++ closed)

  abbrev flags : List Bool
  flags = used_parts ++ new_flags stay closed used_closed

  up : Ascends keys
  up = Ascends-at keys h.ascending

  within : (c : ℕ) → list_any (nat_eq c) codes ≡ true → c < length stay + length (parts ++ closed)
  within c at = let lt = any-below (length stay + (length parts + length closed)) c codes below at in omega (arith, lt, length-append parts closed)

  -- keys of rebuilt dictionaries stand in no dictionary that stays
  lacked : (i : ℕ) → i < length parts → holds stay (get_or parts i []) ≡ false
  lacked i lt = by (holds stay (get_or parts i [])) refl
    where
      by : (b : Bool) → holds stay (get_or parts i []) ≡ b → b ≡ false
      by false e = refl
      by true e =
          let r = in-get stay (get_or parts i []) (holds-in stay (get_or parts i []) e) in
          absurd (apart r.0 (length stay + i) (omega (arith, r.1)) (omega (arith, lt, length-append stay parts))
          (get_or_append_left stay parts [] r.0 r.1 ∙ sym r.2 ∙ sym (get_or-append-add stay parts i [])))

  mark_parts : (i : ℕ) → i < length parts → get_or used_parts i false ≡ list_any (nat_eq (length stay + i)) codes
  mark_parts i lt = sym (get_or_append_left used_parts used_closed false i (omega (arith, lt, size_parts))) ∙ marked i (omega arith)

  mark_closed : (j : ℕ) → j < length closed → get_or used_closed j false ≡ list_any (nat_eq (length stay + (length parts + j))) codes
  mark_closed j lt =
      let e : get_or (used_parts ++ used_closed) (length parts + j) false ≡ get_or used_closed j false =
      ap (λ n. get_or (used_parts ++ used_closed) (n + j) false) (sym size_parts) ∙ get_or-append-add used_parts used_closed j false in
      sym e ∙ marked (length parts + j) (omega arith)

  all_marked : (i : ℕ) → i < length (parts ++ closed) → get_or flags i false ≡ (list_any (nat_eq (length stay + i)) codes && not (holds stay (get_or (parts ++ closed) i [])))
  all_marked i lt = elim (cases_lt i (length parts)) [
    | inl front ↦
        get_or_append_left used_parts (new_flags stay closed used_closed) false i (omega (arith, front, size_parts)) ∙ mark_parts i front
        ∙ and-true (list_any (nat_eq (length stay + i)) codes)
        ∙ ap (λ b. list_any (nat_eq (length stay + i)) codes && not b) (sym (ap (holds stay) (get_or_append_left parts closed [] i front) ∙ lacked i front))
    | inr back ↦
        let j = i - length parts in
        let lt_j : i - length parts < length closed = omega (arith, lt, back, length-append parts closed) in
        let e : length parts + (i - length parts) ≡ i = omega (arith, back) in
        get_or-append_right used_parts (new_flags stay closed used_closed) (length parts) i false size_parts back
        ∙ new-at stay closed used_closed (i - length parts) size_closed lt_j
        ∙ ap (λ b. b && not (holds stay (get_or closed (i - length parts) []))) (mark_closed (i - length parts) lt_j ∙ ap (λ n. list_any (nat_eq (length stay + n)) codes) e)
        ∙ ap (λ k. list_any (nat_eq (length stay + i)) codes && not (holds stay k)) (sym (get_or-append_right parts closed (length parts) i [] refl back))
  ]

  all_used : used (parts ++ closed) flags ≡ used parts used_parts ++ used closed (new_flags stay closed used_closed)
  all_used = used-append parts closed used_parts (new_flags stay closed used_closed) (sym size_parts)

  to : (key : List ℕ) → In key keys → In key (used (parts ++ closed) flags)
  to key there = subst (λ (l : List (List ℕ)). In key l) (sym all_used) (elim ((h.exactly key).0 there) [
    | inl a ↦ in-left key (used parts used_parts) (used closed (new_flags stay closed used_closed)) a
    | inr b ↦ in-right key (used parts used_parts) (used closed (new_flags stay closed used_closed)) b
  ])

  from : (key : List ℕ) → In key (used (parts ++ closed) flags) → In key keys
  from key there = (h.exactly key).1 (split (used parts used_parts) (used closed (new_flags stay closed used_closed)) (subst (λ (l : List (List ℕ)). In key l) all_used there))
    where
      split : (xs ys : List (List ℕ)) → In key (xs ++ ys) → In key xs ⊎ In key ys
      split [] ys i = inr i
      split (x ∷ xs) ys (inl same) = inl (inl same)
      split (x ∷ xs) ys (inr there) = elim (split xs ys there) [ inl a ↦ inl (inr a) | inr b ↦ inr b ]

  -- what was put together is the column's own dictionary
  pub united-own : keys ≡ own_dict stay (cells_of laid codes)
  united-own = column_own stay (parts ++ closed) codes flags within all_marked keys up to from

  -- ---- new codes

  abbrev new_codes : List (Option ℕ)
  new_codes = with_staying (length stay) (entries_of (length stay) from_parts from_closed found)

  abbrev LeadsOn : ℕ → Type 0
  LeadsOn c = (d : ℕ) × (get_or new_codes c None ≡ Some d) × (d < length stay + length keys) × (get_or (stay ++ keys) d [] ≡ get_or laid c [])

  size_from_parts : length from_parts ≡ length parts
  size_from_parts = ap (λ (l : List (Option ℕ)). length l) h.places_parts ∙ length-places keys parts used_parts size_parts

  size_from_closed : length from_closed ≡ length closed
  size_from_closed = ap (λ (l : List (Option ℕ)). length l) h.places_closed ∙ length-places keys closed (new_flags stay closed used_closed) (length-new_flags stay closed used_closed size_closed)

  behind_stay : (i : ℕ) → get_or new_codes (length stay + i) None ≡ get_or (map (behind (length stay)) from_parts ++ chosen_all (length stay) from_closed found) i None
  behind_stay i =
      ap (λ n. get_or new_codes (n + i) None) (sym (length-map-range_with_len Some 0 (length stay)))
      ∙ get_or-append-add (map Some (range_with_len 0 (length stay))) (map (behind (length stay)) from_parts ++ chosen_all (length stay) from_closed found) i None

  stays : (c : ℕ) → c < length stay → LeadsOn c
  stays c lt = (
    c,
    get_or_append_left (map Some (range_with_len 0 (length stay))) (map (behind (length stay)) from_parts ++ chosen_all (length stay) from_closed found) None c (let n = length-map-range_with_len Some 0 (length stay) in omega (arith, lt, n))
        ∙ get_or-map-range_with_len Some 0 (length stay) c c None lt (omega arith),
    omega arith,
    get_or_append_left stay keys [] c lt ∙ sym (get_or_append_left stay (parts ++ closed) [] c lt),
  )

  -- a place among the new keys leads on to the key
  placed_at : (c p : ℕ) (key : List ℕ) → get_or new_codes c None ≡ Some (length stay + p) → p < length keys → get_or keys p [] ≡ key → get_or laid c [] ≡ key → LeadsOn c
  placed_at c p key entry lt at old = (length stay + p, entry, omega arith, get_or-append-add stay keys p [] ∙ at ∙ sym old)

  part : (i : ℕ) → i < length parts → list_any (nat_eq (length stay + i)) codes ≡ true → LeadsOn (length stay + i)
  part i lt at =
      let flag = mark_parts i lt ∙ at in
      let r = places-at keys parts used_parts i up lt flag ((h.exactly (get_or parts i [])).1 (inl (used_one parts used_parts i lt flag))) in
      placed_at (length stay + i) r.0 (get_or parts i [])
      (behind_stay i ∙ get_or_append_left (map (behind (length stay)) from_parts) (chosen_all (length stay) from_closed found) None i (omega (arith, lt, size_from_parts, length-map from_parts (behind (length stay))))
      ∙ get_or-map (behind (length stay)) from_parts i None None (omega (arith, lt, size_from_parts))
      ∙ ap (behind (length stay)) (ap (λ (l : List (Option ℕ)). get_or l i None) h.places_parts ∙ r.1))
      r.2 r.3
      (get_or-append-add stay (parts ++ closed) i [] ∙ get_or_append_left parts closed [] i lt)

  close_entry : (j : ℕ) → j < length closed → get_or new_codes (length stay + (length parts + j)) None ≡ chosen (length stay) (get_or from_closed j None) (get_or found j None)
  close_entry j lt =
      behind_stay (length parts + j)
      ∙ ap (λ n. get_or (map (behind (length stay)) from_parts ++ chosen_all (length stay) from_closed found) (n + j) None) (sym size_from_parts ∙ sym (length-map from_parts (behind (length stay))))
      ∙ get_or-append-add (map (behind (length stay)) from_parts) (chosen_all (length stay) from_closed found) j None
      ∙ chosen-at (length stay) from_closed found j (size_found ∙ sym size_from_closed) (omega (arith, lt, size_from_closed))

  close_key : (j : ℕ) → get_or laid (length stay + (length parts + j)) [] ≡ get_or closed j []
  close_key j = get_or-append-add stay (parts ++ closed) (length parts + j) [] ∙ get_or-append-add parts closed j []

  close : (j : ℕ) → j < length closed → list_any (nat_eq (length stay + (length parts + j))) codes ≡ true → LeadsOn (length stay + (length parts + j))
  close j lt at = by (holds stay (get_or closed j [])) refl
    where
      flag : get_or used_closed j false ≡ true
      flag = mark_closed j lt ∙ at

      by : (b : Bool) → holds stay (get_or closed j []) ≡ b → LeadsOn (length stay + (length parts + j))
      by true e =
          let r = is_found j lt flag e in
          let none : get_or from_closed j None ≡ None =
          ap (λ (l : List (Option ℕ)). get_or l j None) h.places_closed
          ∙ places-none keys closed (new_flags stay closed used_closed) j (new-at stay closed used_closed j size_closed lt ∙ (λ i. flag i && not (e i))) in
          (r.0, close_entry j lt ∙ ap (λ o. chosen (length stay) o (get_or found j None)) none ∙ r.1, omega (arith, r.2), get_or_append_left stay keys [] r.0 r.2 ∙ r.3 ∙ sym (close_key j))
      by false e =
          let new_flag : get_or (new_flags stay closed used_closed) j false ≡ true = new-at stay closed used_closed j size_closed lt ∙ (λ i. flag i && not (e i)) in
          let r = places-at keys closed (new_flags stay closed used_closed) j up lt new_flag ((h.exactly (get_or closed j [])).1 (inr (used_one closed (new_flags stay closed used_closed) j lt new_flag))) in
          placed_at (length stay + (length parts + j)) r.0 (get_or closed j [])
          (close_entry j lt ∙ ap (λ o. chosen (length stay) o (get_or found j None)) (ap (λ (l : List (Option ℕ)). get_or l j None) h.places_closed ∙ r.1))
          r.2 r.3 (close_key j)

  -- each code that occurs leads on to the code of its key
  pub united-leads : (c : ℕ) → list_any (nat_eq c) codes ≡ true → LeadsOn c
  united-leads c at = elim (cases_lt c (length stay)) [
    | inl front ↦ stays c front
    | inr back ↦ other (c - length stay) (omega (arith, back)) at
  ]
    where
      other : (i : ℕ) → length stay + i ≡ c → list_any (nat_eq c) codes ≡ true → LeadsOn c
      other i e at = elim (cases_lt i (length parts)) [
        | inl front ↦ subst LeadsOn e (part i front (ap (λ n. list_any (nat_eq n) codes) e ∙ at))
        | inr back ↦
            let e2 : length stay + (length parts + (i - length parts)) ≡ c = omega (arith, back, e) in
            subst LeadsOn e2 (close (i - length parts) (let lt = within c at in omega (arith, lt, back, e, length-append parts closed)) (ap (λ n. list_any (nat_eq n) codes) e2 ∙ at))
      ]
