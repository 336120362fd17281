-- A list that holds each id once, in the order of the ids, is a map from them to places.
use Rattle.std.proofs.Common.{◌≡◌, ◌≢◌, ◌⊎◌, inl, inr, ℕ, zero, suc, ◌+◌, ◌<◌, ◌≤◌, Bool, T, true, false, cond, List, [], ◌∷◌, length, get_or, Some, nat_eq, refl, sym, ◌∙◌, ap, subst, arith}
use Rattle.std.specs.List.{sum_by, Contains}
use Rattle.std.specs.List.Sorted.{IsNonDecreasingBy}
use Rattle.std.specs.Ordering.{nat_cmp, is_lt}
use Rattle.std.specs.Cmp.{unsigned_tied}
use Rattle.std.specs.FinMap.{find, is_sorted}
use Rattle.std.specs.FinMap.Entries.{below_all}
use Rattle.std.proofs.lemmas.Bool.{eqb-true, eq-eqb, cases_eq}
use Rattle.std.proofs.lemmas.List.Sums.{sum_by-cons}
use Rattle.std.proofs.lemmas.Option.{none-some, same_Some}
use Rattle.ut_exact.proofs.OrderLemmas.{T_first, T_second, T_both, less, is_less, not_tied}
use Rattle.ut_scan.specs.declared.place.Found.{Found}
use Rattle.ut_stamps.specs.declared.place.Place.{Place}
use Rattle.ut_table.specs.Finds.{hits_of}

-- an element of a list
abbrev pub In : Found → List Found → Type 0
In f [] = ⊥
In f (g ∷ gs) = (f ≡ g) ⊎ In f gs

pub In-contains : (f : Found) (fs : List Found) → In f fs → Contains fs f
In-contains f [] h = absurd h
In-contains f (g ∷ gs) (inl e) = (0, omega arith, sym e)
In-contains f (g ∷ gs) (inr h) = let rest = In-contains f gs h in (suc rest.0, omega (arith, rest.1), rest.2)

pub contains-In : (f : Found) (fs : List Found) → Contains fs f → In f fs
contains-In f fs h = by fs h.0 h.1 h.2
  where
    by : (fs : List Found) (k : ℕ) → k < length fs → get_or fs k f ≡ f → In f fs
    by [] k lt e = absurd (omega (arith, lt))
    by (g ∷ gs) zero lt e = inl (sym e)
    by (g ∷ gs) (suc k) lt e = inr (by gs k (omega (arith, lt)) e)

-- how many elements have an id
abbrev pub count_id : ℕ → List Found → ℕ
count_id id fs = sum_by (λ (f : Found). cond (nat_eq f.id id) 1 0) fs

count_id-cons : (id : ℕ) (f : Found) (fs : List Found) → count_id id (f ∷ fs) ≡ cond (nat_eq f.id id) 1 0 + count_id id fs
count_id-cons id f fs = sum_by-cons (λ (g : Found). cond (nat_eq g.id id) 1 0) f fs

pub none-of-id : (id : ℕ) (fs : List Found) → ((g : Found) → In g fs → g.id ≢ id) → count_id id fs ≡ 0
none-of-id id [] none = refl
none-of-id id (f ∷ fs) none = by (none-of-id id fs (λ g h. none g (inr h))) (nat_eq f.id id) refl
  where
    by : count_id id fs ≡ 0 → (b : Bool) → nat_eq f.id id ≡ b → count_id id (f ∷ fs) ≡ 0
    by rest true e = absurd (none f (inl refl) (eqb-true f.id id e))
    by rest false e = count_id-cons id f fs ∙ (λ i. cond (e i) 1 0 + count_id id fs) ∙ (let is : 0 + count_id id fs ≡ 0 = omega (arith, rest) in is)

pub some-of-id : (id : ℕ) (fs : List Found) → 0 < count_id id fs → (f : Found) × In f fs × (f.id ≡ id)
some-of-id id [] lt = absurd (omega (arith, lt))
some-of-id id (f ∷ fs) lt = by (some-of-id id fs) (nat_eq f.id id) refl
  where
    by : (0 < count_id id fs → (g : Found) × In g fs × (g.id ≡ id)) → (b : Bool) → nat_eq f.id id ≡ b → (g : Found) × In g (f ∷ fs) × (g.id ≡ id)
    by rec true e = (f, inl refl, eqb-true f.id id e)
    by rec false e =
        let is : count_id id (f ∷ fs) ≡ 0 + count_id id fs = count_id-cons id f fs ∙ (λ i. cond (e i) 1 0 + count_id id fs) in
        let more : 0 < count_id id fs = omega (arith, lt, is) in
        let rest = rec more in
        (rest.0, inr rest.1, rest.2)

counted : (g : Found) (fs : List Found) (id : ℕ) → In g fs → g.id ≡ id → 0 < count_id id fs
counted g [] id h same = absurd h
counted g (e ∷ es) id (inl is) same =
    let tied : nat_eq e.id id ≡ true = eq-eqb e.id id (ap (λ (x : Found). x.id) (sym is) ∙ same) in
    let one : count_id id (e ∷ es) ≡ 1 + count_id id es = count_id-cons id e es ∙ (λ i. cond (tied i) 1 0 + count_id id es) in
    omega (arith, one)
counted g (e ∷ es) id (inr h) same = omega (arith, count_id-cons id e es, counted g es id h same)

-- an id that the first element has is no other's, where each is held once
apart : (f g : Found) (fs : List Found) → count_id f.id (f ∷ fs) ≤ 1 → In g fs → g.id ≢ f.id
apart f g fs few h same =
    let one : count_id f.id (f ∷ fs) ≡ 1 + count_id f.id fs = count_id-cons f.id f fs ∙ (λ i. cond (eq-eqb f.id f.id refl i) 1 0 + count_id f.id fs) in
    let some : 0 < count_id f.id fs = counted g fs f.id h same in
    omega (arith, one, some, few)

below-all : (x : ℕ) (fs : List Found) → ((g : Found) → In g fs → x < g.id) → T (below_all nat_cmp x (hits_of fs))
below-all x [] lt = tt
below-all x (f ∷ fs) lt = T_both (is_lt (nat_cmp x f.id)) _ (is_less x f.id (lt f (inl refl))) (below-all x fs (λ g h. lt g (inr h)))

below-each : (x : ℕ) (fs : List Found) (g : Found) → T (below_all nat_cmp x (hits_of fs)) → In g fs → x < g.id
below-each x [] g h in' = absurd in'
below-each x (f ∷ fs) g h (inl e) = subst (λ (y : Found). x < y.id) (sym e) (less x f.id (T_first (is_lt (nat_cmp x f.id)) _ h))
below-each x (f ∷ fs) g h (inr in') = below-each x fs g (T_second (is_lt (nat_cmp x f.id)) _ h) in'

pub rising : (fs : List Found) → IsNonDecreasingBy (λ (f : Found). f.id) fs → ((id : ℕ) → count_id id fs ≤ 1) → T (is_sorted nat_cmp (hits_of fs))
rising [] up once = tt
rising (f ∷ fs) up once =
    T_both (below_all nat_cmp f.id (hits_of fs)) _ (below-all f.id fs above)
    (rising fs (λ i j d le lt. up (suc i) (suc j) d (omega (arith, le)) (omega (arith, lt))) (λ id. omega (arith, once id, count_id-cons id f fs)))
  where
    above : (g : Found) → In g fs → f.id < g.id
    above g h =
        let at = In-contains g fs h in
        let le : f.id ≤ (get_or fs at.0 g).id = up 0 (suc at.0) g (omega arith) (omega (arith, at.1)) in
        let no_less : f.id ≤ g.id = subst (λ (x : Found). f.id ≤ x.id) at.2 le in
        let other : g.id ≢ f.id = apart f g fs (once f.id) h in
        omega (arith, no_less, other)

pub find-in : (fs : List Found) (g : Found) → T (is_sorted nat_cmp (hits_of fs)) → In g fs → find nat_cmp g.id (hits_of fs) ≡ Some g.place
find-in [] g order h = absurd h
find-in (f ∷ fs) g order (inl e) =
    ap (λ b. cond b (Some f.place) (find nat_cmp g.id (hits_of fs))) (unsigned_tied g.id f.id ∙ eq-eqb g.id f.id (ap (λ (x : Found). x.id) e))
    ∙ ap (λ (x : Found). Some x.place) (sym e)
find-in (f ∷ fs) g order (inr h) =
    let lt : f.id < g.id = below-each f.id fs g (T_first (below_all nat_cmp f.id (hits_of fs)) _ order) h in
    ap (λ b. cond b (Some f.place) (find nat_cmp g.id (hits_of fs))) (not_tied g.id f.id (λ same. absurd (omega (arith, lt, same))))
    ∙ find-in fs g (T_second (below_all nat_cmp f.id (hits_of fs)) _ order) h

pub found-in : (fs : List Found) (id : ℕ) (p : Place) → find nat_cmp id (hits_of fs) ≡ Some p → In (record { id = id; place = p }) fs
found-in [] id p e = absurd (none-some p e)
found-in (f ∷ fs) id p e = elim (cases_eq id f.id) [
  | inl same ↦
      let is : Some f.place ≡ Some p = sym (ap (λ b. cond b (Some f.place) (find nat_cmp id (hits_of fs))) (unsigned_tied id f.id ∙ eq-eqb id f.id same)) ∙ e in
      let place : p ≡ f.place = sym (same_Some f.place p is) in
      inl (λ i. record { id = same i; place = place i })
  | inr other ↦ inr (found-in fs id p (sym (ap (λ b. cond b (Some f.place) (find nat_cmp id (hits_of fs))) (not_tied id f.id other)) ∙ e))
]
