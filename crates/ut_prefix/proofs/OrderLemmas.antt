-- Where a key stands among ascending keys.
use Rattle.std.proofs.Common.{◌≡◌, ◌≢◌, ◌⊎◌, ℕ, zero, suc, ◌+◌, ◌/◌, ◌^◌, min, nat_eq, Bool, true, false, ◌<◌, ◌≤◌, List, [], length, take, get_or, refl, sym, ◌∙◌, ap, subst, arith, inl, inr}
use Rattle.std.specs.Int.{from_bool}
use Rattle.std.specs.List.{count_by}
use Rattle.std.specs.Ordering.{is_lt}
use Rattle.std.proofs.lemmas.List.{take_all}
use Rattle.std.proofs.lemmas.List.Sums.{count_by_more_yes, count_by_more_no}
use Rattle.std.proofs.Math.Nat.{pow-suc}
use borrow.Author.Tests.{eqb-true}
use Rattle.ut_prefix.specs.Lookup.{IsSplit, count_below, digits_within, binary_digits}
use Rattle.std.specs.declared.cmp.Ordering.{Ordering}
use Rattle.std.specs.declared.cmp.Ordering.TheVariants.{Less, Equal, Greater}
use Rattle.std.proofs.lemmas.Cmp.{nat_list_cmp_total, alike_right, tied_itself}
use Rattle.std.proofs.lemmas.Option.{slice_get-get_or, get_or_from_slice_get}
use Rattle.std.specs.List.{Contains}
use Rattle.std.specs.Ordering.{ordering_reverse}
use Rattle.std.proofs.lemmas.Bool.{cases_lt}
use Rattle.ut_key.specs.Keys.{key_cmp, IsAscending}

pub reversed : (a b : List ℕ) → key_cmp a b ≡ Greater → key_cmp b a ≡ Less
reversed a b e = nat_list_cmp_total.antisymm b a ∙ ap (λ o. ordering_reverse o) e

pub turned : (a b : List ℕ) → key_cmp a b ≡ Less → key_cmp b a ≡ Greater
turned a b e = nat_list_cmp_total.antisymm b a ∙ ap (λ o. ordering_reverse o) e

-- a key that is not above is below or equal
not_above : (o : Ordering) → o ≢ Greater → (o ≡ Less) ⊎ (o ≡ Equal)
not_above Less h = inl refl
not_above Equal h = inr refl
not_above Greater h = absurd (h refl)

pub less_before : (keys : List (List ℕ)) (key : List ℕ) (a i : ℕ) → IsAscending keys → key_cmp (get_or keys a []) key ≢ Greater → i < a → a < length keys
    → key_cmp (get_or keys i []) key ≡ Less
less_before keys key a i up h lt within =
    elim (not_above _ h) [
      | inl less ↦ nat_list_cmp_total.trans (get_or keys i []) (get_or keys a []) key (up i a lt within) less
      | inr same ↦ sym (alike_right nat_list_cmp_total (get_or keys a []) key (get_or keys i []) same) ∙ up i a lt within
    ]

pub greater_on : (keys : List (List ℕ)) (key : List ℕ) (a i : ℕ) → IsAscending keys → key_cmp (get_or keys a []) key ≡ Greater → a ≤ i → i < length keys
    → key_cmp (get_or keys i []) key ≡ Greater
greater_on keys key a i up h le within =
    elim (cases_lt a i) [
      | inl lt ↦ turned key (get_or keys i []) (nat_list_cmp_total.trans key (get_or keys a []) (get_or keys i []) (reversed (get_or keys a []) key h) (up a i lt within))
      | inr ge ↦ let e : a ≡ i = omega arith in subst (λ (k : ℕ). key_cmp (get_or keys k []) key ≡ Greater) e h
    ]

-- a key isn't among ascending keys where those in front of a place are below it and the others above
pub absent : (keys : List (List ℕ)) (key : List ℕ) (place : ℕ) → ((i : ℕ) → i < place → key_cmp (get_or keys i []) key ≡ Less)
    → ((i : ℕ) → place ≤ i → i < length keys → key_cmp (get_or keys i []) key ≡ Greater) → Contains keys key → ⊥
absent keys key place below above h =
    let here : get_or keys h.0 [] ≡ key = get_or_from_slice_get keys h.0 (get_or keys h.0 key) [] (slice_get-get_or keys h.0 key h.1) ∙ h.2 in
    let same : key_cmp (get_or keys h.0 []) key ≡ Equal = ap (λ (l : List ℕ). key_cmp l key) here ∙ tied_itself nat_list_cmp_total key in
    elim (cases_lt h.0 place) [
      | inl lt ↦ less_equal (sym (below h.0 lt) ∙ same)
      | inr ge ↦ greater_equal (sym (above h.0 ge h.1) ∙ same)
    ]
  where
    less_equal : Less ≡ Equal → ⊥
    less_equal e = cc

    greater_equal : Greater ≡ Equal → ⊥
    greater_equal e = cc

-- what holds of either answer
pub either : {P : Type 0} (b : Bool) → (b ≡ true → P) → (b ≡ false → P) → P
either true f g = f refl
either false f g = g refl

-- what a search found, as a split
pub IsSplit-found : (keys : List (List ℕ)) (key : List ℕ) (place : ℕ) (found : Bool) (above : ℕ) → IsAscending keys → place ≤ length keys
    → ((i : ℕ) → i < place → key_cmp (get_or keys i []) key ≡ Less)
    → (found ≡ true → place < length keys) → (found ≡ true → get_or keys place [] ≡ key)
    → (found ≡ false → (i : ℕ) → place ≤ i → i < length keys → key_cmp (get_or keys i []) key ≡ Greater)
    → above ≡ place + from_bool found → IsSplit keys key place above
IsSplit-found keys key place true above up within less there same greater e = record {
  ordered = omega (arith, e);
  near = omega (arith, e);
  within = let lt = there refl in omega (arith, e, lt);
  less = less;
  same = λ i le lt. let at : place ≡ i = omega (arith, e, le, lt) in ap (λ (k : ℕ). get_or keys k []) (sym at) ∙ same refl;
  greater = λ i le lt.
      ap (λ (l : List ℕ). key_cmp (get_or keys i []) l) (sym (same refl)) ∙ turned (get_or keys place []) (get_or keys i []) (up place i (omega (arith, e, le)) lt);
}
IsSplit-found keys key place false above up within less there same greater e = record {
  ordered = omega (arith, e);
  near = omega (arith, e);
  within = omega (arith, e, within);
  less = less;
  same = λ i le lt. absurd (omega (arith, e, le, lt));
  greater = λ i le lt. greater refl i (omega (arith, e, le)) lt;
}

-- no key stands between the two places of a split: the key isn't there
pub absent_between : (keys : List (List ℕ)) (key : List ℕ) (below above : ℕ) → IsSplit keys key below above → above ≤ below → Contains keys key → ⊥
absent_between keys key below above h le = absent keys key below h.less (λ i from lt. h.greater i (omega (arith, le, from)) lt)

not_lower : (keys : List (List ℕ)) (key : List ℕ) (below above i : ℕ) → IsSplit keys key below above → below ≤ i → i < length keys → is_lt (key_cmp (get_or keys i []) key) ≡ false
not_lower keys key below above i h le lt =
    elim (cases_lt i above) [
      | inl on ↦ ap (λ o. is_lt o) (ap (λ (l : List ℕ). key_cmp l key) (h.same i le on) ∙ tied_itself nat_list_cmp_total key)
      | inr past ↦ ap (λ o. is_lt o) (h.greater i past lt)
    ]

count_front : (keys : List (List ℕ)) (key : List ℕ) (below above i : ℕ) → IsSplit keys key below above → i ≤ length keys → count_by (λ other. is_lt (key_cmp other key)) (take i keys) ≡ min i below
count_front keys key below above zero h le = omega arith
count_front keys key below above (suc i) h le =
    let one : suc i ≡ i + 1 = omega arith in
    let front = count_front keys key below above i h (omega (arith, le)) in
    ap (λ (k : ℕ). count_by (λ other. is_lt (key_cmp other key)) (take k keys)) one
    ∙ elim (cases_lt i below) [
      | inl lt ↦ count_by_more_yes (λ other. is_lt (key_cmp other key)) keys i [] (omega (arith, le)) (ap (λ o. is_lt o) (h.less i lt)) ∙ omega (arith, front, lt)
      | inr ge ↦ count_by_more_no (λ other. is_lt (key_cmp other key)) keys i [] (omega (arith, le)) (not_lower keys key below above i h ge (omega (arith, le))) ∙ omega (arith, front, ge)
    ]

-- the keys before a split are those below the key
pub count_below-split : (keys : List (List ℕ)) (key : List ℕ) (below above : ℕ) → IsSplit keys key below above → below ≡ count_below keys key
count_below-split keys key below above h =
    let all = count_front keys key below above (length keys) h (omega arith) in
    let least : min (length keys) below ≡ below = omega (arith, h.ordered, h.within) in
    sym least ∙ sym all ∙ ap (λ (l : List (List ℕ)). count_by (λ other. is_lt (key_cmp other key)) l) (take_all (length keys) keys (omega arith))

digits_within-above : (most n : ℕ) → n ≤ most → n < 2 ^ digits_within most n
digits_within-above zero n le = omega (arith, le)
digits_within-above (suc most) n le =
    either (nat_eq n 0)
    (λ none. let e = eqb-true n 0 none in rw none (omega (arith, e)))
    (λ some. rw some (let rest = digits_within-above most (n / 2) (omega (arith, le)) in omega (arith, rest, pow-suc 2 (digits_within most (n / 2)))))

-- a number is below two to its number of binary digits
pub binary_digits-above : (n : ℕ) → n < 2 ^ binary_digits n
binary_digits-above n = digits_within-above n n (omega arith)
