-- What is written of a piece, with one key more.
use Rattle.std.proofs.Common.{◌≡◌, ℕ, ◌+◌, ◌-◌, ◌≤◌, List, [], ◌∷◌, ◌++◌, length, get_or, refl, sym, ◌∙◌, ap, subst, arith, Bool, true, false, ◌||◌, inl, inr, Option, Some, None, lit≤}
use Rattle.std.specs.declared.cmp.Ordering.TheVariants.{Less, Equal, Greater}
use Rattle.std.proofs.lemmas.Bool.{cases_lt}
use Rattle.std.proofs.lemmas.List.{length-append, append_assoc, get_or_append_left, length_push, get_or_push}
use Rattle.std.specs.FinMap.{slice_cmp-IsAntisymmetric, nat_cmp-IsAntisymmetric}
use Rattle.ut_own.specs.Own.{used}
use Rattle.ut_dictmerge.specs.Pieces.{IsNext, kept, entry_of, IsPlace, ArePlaces}
use Rattle.ut_dictmerge.proofs.StepLemmas.{AreLists, left, step_a, step_b, step_both}

-- Keys that are written leave the places of those in front as they are.
IsPlace-more : (base : ℕ) (d more : List (List ℕ)) (key : List ℕ) (f : Bool) (e : Option ℕ) → IsPlace base d key f e → IsPlace base (d ++ more) key f e
IsPlace-more base d more key true (Some p) h =
    (h.0, omega (arith, h.1, length-append d more), get_or_append_left d more [] (p - base) (omega (arith, h.0, h.1)) ∙ h.2)
IsPlace-more base d more key true None h = h
IsPlace-more base d more key false e h = h

pub ArePlaces-more : (base : ℕ) (d more keys : List (List ℕ)) (flags : List Bool) (from : ℕ) (es : List (Option ℕ)) → ArePlaces base d keys flags from es → ArePlaces base (d ++ more) keys flags from es
ArePlaces-more base d more keys flags from es h = λ i lt. IsPlace-more base d more (get_or keys (from + i) []) (get_or flags (from + i) false) (get_or es i None) (h i lt)

-- the entry of a key that is written last
pub IsPlace-last : (base : ℕ) (d : List (List ℕ)) (key : List ℕ) (f w : Bool) (p : ℕ) → p ≡ base + length d → (f ≡ true → w ≡ true) → IsPlace base (d ++ kept w key) key f (entry_of f p)
IsPlace-last base d key true true p e h =
    let at : p - base ≡ length d = omega arith in
    (omega (arith, e), omega (arith, e, length_push d key), get_or_push d key [] (p - base) (sym at))
IsPlace-last base d key true false p e h = let x : false ≡ true = h refl in cc
IsPlace-last base d key false w p e h = refl

pub ArePlaces-push : (base : ℕ) (d keys : List (List ℕ)) (flags : List Bool) (from i : ℕ) (es : List (Option ℕ)) (entry : Option ℕ) → length es ≡ i - from → from ≤ i → ArePlaces base d keys flags from es
    → IsPlace base d (get_or keys i []) (get_or flags i false) entry → ArePlaces base d keys flags from (es ++ entry ∷ [])
ArePlaces-push base d keys flags from i es entry size le h k = λ n lt.
    elim (cases_lt n (length es)) [
      | inl within ↦ subst (λ e. IsPlace base d (get_or keys (from + n) []) (get_or flags (from + n) false) e) (sym (get_or_append_left es (entry ∷ []) None n within)) (h n within)
      | inr past ↦
          let at : n ≡ length es = omega (arith, lt, length_push es entry) in
          let here : i ≡ from + n = omega arith in
          subst (λ e. IsPlace base d (get_or keys (from + n) []) (get_or flags (from + n) false) e) (sym (get_or_push es entry None n (sym at)))
          (subst (λ (m : ℕ). IsPlace base d (get_or keys m []) (get_or flags m false) entry) here k)
    ]

-- the merge stands at i and j
pub record IsWritten (a : List (List ℕ)) (ua : List Bool) (b : List (List ℕ)) (ub : List Bool) (fa fb ta tb base : ℕ) (keys : List (List ℕ)) (xa xb : List (Option ℕ)) (i j : ℕ) : Type 0 where
  pub after_a : fa ≤ i
  pub after_b : fb ≤ j
  pub before_a : i ≤ ta
  pub before_b : j ≤ tb
  pub count : length keys ≤ (i - fa) + (j - fb)
  pub keys_are : keys ++ left a ua b ub ta tb i j ≡ left a ua b ub ta tb fa fb
  pub size_a : length xa ≡ i - fa
  pub size_b : length xb ≡ j - fb
  pub places_a : ArePlaces base keys a ua fa xa
  pub places_b : ArePlaces base keys b ub fb xb

kept_size : (w : Bool) (key : List ℕ) → length (kept w key) ≤ 1
kept_size true key = lit≤ tt
kept_size false key = lit≤ tt

or_left : (f g : Bool) → f ≡ true → (f || g) ≡ true
or_left true g e = refl
or_left false g e = let x : false ≡ true = e in cc

or_right : (f g : Bool) → g ≡ true → (f || g) ≡ true
or_right true g e = refl
or_right false g e = e

-- what is written and what is left, one step on
onward : (keys more rest rest' whole next : List (List ℕ)) → keys ++ rest ≡ whole → rest ≡ more ++ rest' → next ≡ keys ++ more → next ++ rest' ≡ whole
onward keys more rest rest' whole next h e n =
    ap (λ l. l ++ rest') n ∙ append_assoc keys more rest' ∙ ap (λ l. keys ++ l) (sym e) ∙ h

pub written_a : (a : List (List ℕ)) (ua : List Bool) (b : List (List ℕ)) (ub : List Bool) (fa fb ta tb base : ℕ) (keys : List (List ℕ)) (xa xb : List (Option ℕ)) (i j : ℕ) (place : ℕ) (keys' : List (List ℕ)) (xa' : List (Option ℕ))
    → AreLists a ua b ub ta tb → IsWritten a ua b ub fa fb ta tb base keys xa xb i j → IsNext Less a i ta b j tb → place ≡ base + length keys
    → keys' ≡ keys ++ kept (get_or ua i false) (get_or a i []) → xa' ≡ xa ++ entry_of (get_or ua i false) place ∷ []
    → IsWritten a ua b ub fa fb ta tb base keys' xa' xb (i + 1) j
written_a a ua b ub fa fb ta tb base keys xa xb i j place keys' xa' l w n p k x =
    let small = kept_size (get_or ua i false) (get_or a i []) in
    let size : length keys' ≡ length keys + length (kept (get_or ua i false) (get_or a i [])) = ap (λ m. length m) k ∙ length-append keys (kept (get_or ua i false) (get_or a i [])) in
    let sa : length xa' ≡ length xa + 1 = ap (λ m. length m) x ∙ length_push xa (entry_of (get_or ua i false) place) in
    record {
      after_a = omega (arith, w.after_a);
      after_b = w.after_b;
      before_a = omega (arith, n.0);
      before_b = w.before_b;
      count = omega (arith, size, small, w.count, w.after_a, w.after_b);
      keys_are = onward keys (kept (get_or ua i false) (get_or a i [])) (left a ua b ub ta tb i j) (left a ua b ub ta tb (i + 1) j) (left a ua b ub ta tb fa fb) keys' w.keys_are (step_a a ua b ub ta tb i j l n) k;
      size_a = omega (arith, sa, w.size_a, w.after_a);
      size_b = w.size_b;
      places_a = subst (λ m. ArePlaces base m a ua fa xa') (sym k) (subst (λ m. ArePlaces base (keys ++ kept (get_or ua i false) (get_or a i [])) a ua fa m) (sym x)
          (ArePlaces-push base (keys ++ kept (get_or ua i false) (get_or a i [])) a ua fa i xa (entry_of (get_or ua i false) place) w.size_a w.after_a (ArePlaces-more base keys (kept (get_or ua i false) (get_or a i [])) a ua fa xa w.places_a)
          (IsPlace-last base keys (get_or a i []) (get_or ua i false) (get_or ua i false) place p (λ e. e))));
      places_b = subst (λ m. ArePlaces base m b ub fb xb) (sym k) (ArePlaces-more base keys (kept (get_or ua i false) (get_or a i [])) b ub fb xb w.places_b);
    }

pub written_b : (a : List (List ℕ)) (ua : List Bool) (b : List (List ℕ)) (ub : List Bool) (fa fb ta tb base : ℕ) (keys : List (List ℕ)) (xa xb : List (Option ℕ)) (i j : ℕ) (place : ℕ) (keys' : List (List ℕ)) (xb' : List (Option ℕ))
    → AreLists a ua b ub ta tb → IsWritten a ua b ub fa fb ta tb base keys xa xb i j → IsNext Greater a i ta b j tb → place ≡ base + length keys
    → keys' ≡ keys ++ kept (get_or ub j false) (get_or b j []) → xb' ≡ xb ++ entry_of (get_or ub j false) place ∷ []
    → IsWritten a ua b ub fa fb ta tb base keys' xa xb' i (j + 1)
written_b a ua b ub fa fb ta tb base keys xa xb i j place keys' xb' l w n p k x =
    let small = kept_size (get_or ub j false) (get_or b j []) in
    let size : length keys' ≡ length keys + length (kept (get_or ub j false) (get_or b j [])) = ap (λ m. length m) k ∙ length-append keys (kept (get_or ub j false) (get_or b j [])) in
    let sb : length xb' ≡ length xb + 1 = ap (λ m. length m) x ∙ length_push xb (entry_of (get_or ub j false) place) in
    record {
      after_a = w.after_a;
      after_b = omega (arith, w.after_b);
      before_a = w.before_a;
      before_b = omega (arith, n.0);
      count = omega (arith, size, small, w.count, w.after_a, w.after_b);
      keys_are = onward keys (kept (get_or ub j false) (get_or b j [])) (left a ua b ub ta tb i j) (left a ua b ub ta tb i (j + 1)) (left a ua b ub ta tb fa fb) keys' w.keys_are (step_b a ua b ub ta tb i j l n) k;
      size_a = w.size_a;
      size_b = omega (arith, sb, w.size_b, w.after_b);
      places_a = subst (λ m. ArePlaces base m a ua fa xa) (sym k) (ArePlaces-more base keys (kept (get_or ub j false) (get_or b j [])) a ua fa xa w.places_a);
      places_b = subst (λ m. ArePlaces base m b ub fb xb') (sym k) (subst (λ m. ArePlaces base (keys ++ kept (get_or ub j false) (get_or b j [])) b ub fb m) (sym x)
          (ArePlaces-push base (keys ++ kept (get_or ub j false) (get_or b j [])) b ub fb j xb (entry_of (get_or ub j false) place) w.size_b w.after_b (ArePlaces-more base keys (kept (get_or ub j false) (get_or b j [])) b ub fb xb w.places_b)
          (IsPlace-last base keys (get_or b j []) (get_or ub j false) (get_or ub j false) place p (λ e. e))));
    }

pub written_both : (a : List (List ℕ)) (ua : List Bool) (b : List (List ℕ)) (ub : List Bool) (fa fb ta tb base : ℕ) (keys : List (List ℕ)) (xa xb : List (Option ℕ)) (i j : ℕ) (place : ℕ) (used : Bool) (keys' : List (List ℕ)) (xa' xb' : List (Option ℕ))
    → AreLists a ua b ub ta tb → IsWritten a ua b ub fa fb ta tb base keys xa xb i j → IsNext Equal a i ta b j tb → place ≡ base + length keys
    → used ≡ (get_or ua i false || get_or ub j false)
    → keys' ≡ keys ++ kept used (get_or a i []) → xa' ≡ xa ++ entry_of (get_or ua i false) place ∷ [] → xb' ≡ xb ++ entry_of (get_or ub j false) place ∷ []
    → IsWritten a ua b ub fa fb ta tb base keys' xa' xb' (i + 1) (j + 1)
written_both a ua b ub fa fb ta tb base keys xa xb i j place used keys' xa' xb' l w n p u k x y =
    let small = kept_size used (get_or a i []) in
    let same : get_or a i [] ≡ get_or b j [] = slice_cmp-IsAntisymmetric nat_cmp-IsAntisymmetric _ _ n.2 in
    let size : length keys' ≡ length keys + length (kept used (get_or a i [])) = ap (λ m. length m) k ∙ length-append keys (kept used (get_or a i [])) in
    let sa : length xa' ≡ length xa + 1 = ap (λ m. length m) x ∙ length_push xa (entry_of (get_or ua i false) place) in
    let sb : length xb' ≡ length xb + 1 = ap (λ m. length m) y ∙ length_push xb (entry_of (get_or ub j false) place) in
    record {
      after_a = omega (arith, w.after_a);
      after_b = omega (arith, w.after_b);
      before_a = omega (arith, n.0);
      before_b = omega (arith, n.1);
      count = omega (arith, size, small, w.count, w.after_a, w.after_b);
      keys_are = onward keys (kept used (get_or a i [])) (left a ua b ub ta tb i j) (left a ua b ub ta tb (i + 1) (j + 1)) (left a ua b ub ta tb fa fb) keys' w.keys_are
          (step_both a ua b ub ta tb i j l n ∙ ap (λ f. kept f (get_or a i []) ++ left a ua b ub ta tb (i + 1) (j + 1)) (sym u)) k;
      size_a = omega (arith, sa, w.size_a, w.after_a);
      size_b = omega (arith, sb, w.size_b, w.after_b);
      places_a = subst (λ m. ArePlaces base m a ua fa xa') (sym k) (subst (λ m. ArePlaces base (keys ++ kept used (get_or a i [])) a ua fa m) (sym x)
          (ArePlaces-push base (keys ++ kept used (get_or a i [])) a ua fa i xa (entry_of (get_or ua i false) place) w.size_a w.after_a (ArePlaces-more base keys (kept used (get_or a i [])) a ua fa xa w.places_a)
          (IsPlace-last base keys (get_or a i []) (get_or ua i false) used place p (λ e. u ∙ or_left (get_or ua i false) (get_or ub j false) e))));
      places_b = subst (λ m. ArePlaces base m b ub fb xb') (sym k) (subst (λ m. ArePlaces base (keys ++ kept used (get_or a i [])) b ub fb m) (sym y)
          (ArePlaces-push base (keys ++ kept used (get_or a i [])) b ub fb j xb (entry_of (get_or ub j false) place) w.size_b w.after_b (ArePlaces-more base keys (kept used (get_or a i [])) b ub fb xb w.places_b)
          (subst (λ key. IsPlace base (keys ++ kept used key) (get_or b j []) (get_or ub j false) (entry_of (get_or ub j false) place)) (sym same)
          (IsPlace-last base keys (get_or b j []) (get_or ub j false) used place p (λ e. u ∙ or_right (get_or ua i false) (get_or ub j false) e)))));
    }
