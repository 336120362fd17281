-- The keys that a dictionary holds, one more, and in the other form.
use Rattle.std.proofs.Common.{◌≡◌, ℕ, suc, ◌<◌, Bool, true, false, cond, ◌||◌, List, [], ◌∷◌, ◌++◌, length, get_or, fold, Option, Some, None, if◌then◌else◌, ltb, position, ap, sym, ◌∙◌, subst, arith, refl}
use Rattle.std.specs.List.{list_any, position_or_len, IsDistinct}
use Rattle.std.proofs.lemmas.Map.Keys.{apart_from_distinct}
use Rattle.std.specs.Cmp.Lexicographic.{nat_list_eq_equiv}
use Rattle.std.proofs.lemmas.List.{append_assoc, append-nil, length-append, get_or_append_left}
use Rattle.std.proofs.Math.Seq.{get_or-append_seam}
use Rattle.ut_unsorted.specs.FirstSeen.{key_eq, note, first_seen}
use Rattle.ut_unsorted.specs.Rising.{risen}
use Rattle.ut_unsorted.proofs.FirstSeenLemmas.{absent-length}

-- a key that is found is not new
pub note-found : (k : List ℕ) (ks : List (List ℕ)) (i : ℕ) → Some i ≡ position (key_eq k) ks → ks ≡ note ks k
note-found k ks i e = by (list_any (key_eq k) ks) refl
  where
    at : list_any (key_eq k) ks ≡ false → position_or_len (key_eq k) ks ≡ length ks
    at f = absent-length (key_eq k) ks f

    none : list_any (key_eq k) ks ≡ false → (b : Bool) → ltb (position_or_len (key_eq k) ks) (length ks) ≡ b → Some i ≡ cond b (Some (position_or_len (key_eq k) ks)) None → ks ≡ ks ++ k ∷ []
    none f true g h = let p = at f in absurd (omega (arith, p, grows g))
      where
        grows : ltb (position_or_len (key_eq k) ks) (length ks) ≡ true → position_or_len (key_eq k) ks < length ks
        grows g = grind arith
    none f false g h = cc

    by : (b : Bool) → list_any (key_eq k) ks ≡ b → ks ≡ (if b then ks else ks ++ k ∷ [])
    by true f = refl
    by false f = none f (ltb (position_or_len (key_eq k) ks) (length ks)) refl e

pub risen-found : (r : Option ℕ) (ks : List (List ℕ)) (k : List ℕ) → r ≡ position (key_eq k) ks → ks ≡ risen r ks k
risen-found (Some i) ks k e = note-found k ks i e
risen-found None ks k e = refl

-- keys that differ are what is first seen of them
fresh : (done : List (List ℕ)) (k : List ℕ) (rest : List (List ℕ)) → IsDistinct key_eq (done ++ k ∷ rest) → list_any (key_eq k) done ≡ false
fresh done k rest h = from done (λ i lt.
    let all = done ++ k ∷ rest in
    let l : length done < length (done ++ k ∷ rest) = omega (arith, length-append done (k ∷ rest)) in
    nat_list_eq_equiv.symm k (get_or done i [])
    ∙ ap (λ x. key_eq x k) (sym (get_or_append_left done (k ∷ rest) [] i lt))
    ∙ ap (key_eq (get_or (done ++ k ∷ rest) i [])) (sym (get_or-append_seam done k rest []))
    ∙ apart_from_distinct key_eq (done ++ k ∷ rest) i (length done) [] h lt l)
  where
    from : (xs : List (List ℕ)) → ((i : ℕ) → i < length xs → key_eq k (get_or xs i []) ≡ false) → list_any (key_eq k) xs ≡ false
    from [] each = refl
    from (x ∷ xs) each = ap (λ b. b || list_any (key_eq k) xs) (each 0 (omega arith)) ∙ from xs (λ i lt. each (suc i) (omega (arith, lt)))

distinct-fold : (done rest : List (List ℕ)) → IsDistinct key_eq (done ++ rest) → fold note done rest ≡ done ++ rest
distinct-fold done [] h = sym (append-nil done)
distinct-fold done (k ∷ rest) h =
    ap (λ b. fold note (if b then done else done ++ k ∷ []) rest) (fresh done k rest h)
    ∙ distinct-fold (done ++ k ∷ []) rest (subst (IsDistinct key_eq) (sym (append_assoc done (k ∷ []) rest)) h)
    ∙ append_assoc done (k ∷ []) rest

pub distinct-first_seen : (ks : List (List ℕ)) → IsDistinct key_eq ks → first_seen ks ≡ ks
distinct-first_seen ks h = distinct-fold [] ks h
