-- Ids of which no two are the same, in whatever order.
use Rattle.std.proofs.Common.{◌≡◌, ◌≢◌, ℕ, zero, suc, ◌+◌, ◌<◌, ◌≤◌, Bool, true, false, cond, nat_eq, List, [], ◌∷◌, ◌++◌, length, slice_index_or, refl, sym, ap, subst, arith}
use Rattle.std.specs.List.{AllByRecursion, AllPairs, count_by, flat_map}
use Rattle.std.proofs.lemmas.Bool.{eq-eqb, eqb-true, ne_eqb}
use Rattle.std.proofs.lemmas.List.Sums.{sum_by-cons, sum_by-append}
use Rattle.ut_plain.specs.Stages.{Stages}
use Rattle.ut_plain.specs.Capture.{AreDistinct, ids, ids_of}
use Rattle.ut_durable.specs.Rules.{delta_ids, part_ids, image_ids}

pub distinct_by_pairs : (list : List ℕ) → AllPairs (λ (a b : ℕ). a ≢ b) list → AreDistinct list
distinct_by_pairs [] own = tt
distinct_by_pairs (x ∷ list) own = (others x list (λ k d lt same. own zero (suc k) d (omega arith) (omega (arith, lt)) (sym same)), distinct_by_pairs list (λ i j d lt within. own (suc i) (suc j) d (omega (arith, lt)) (omega (arith, within))))
  where
    others : (y : ℕ) (ys : List ℕ) → ((k : ℕ) (d : ℕ) → k < length ys → slice_index_or ys k d ≡ y → ⊥) → AllByRecursion (λ (other : ℕ). other ≢ y) ys
    others y [] none = tt
    others y (z ∷ zs) none = (none zero z (omega arith), others y zs (λ k d lt. none (suc k) d (omega (arith, lt))))

-- whether, as a number
abbrev one_if : Bool → ℕ
one_if b = cond b 1 0

-- how often an id stands among others
abbrev times : ℕ → List ℕ → ℕ
times id list = count_by (nat_eq id) list

times_cons : (id x : ℕ) (list : List ℕ) → times id (x ∷ list) ≡ one_if (nat_eq id x) + times id list
times_cons id x list = sum_by-cons (λ (y : ℕ). one_if (nat_eq id y)) x list

times_both : (id : ℕ) (xs ys : List ℕ) → times id (xs ++ ys) ≡ times id xs + times id ys
times_both id xs ys = sum_by-append (λ (y : ℕ). one_if (nat_eq id y)) xs ys

none_of : (id : ℕ) (list : List ℕ) → AllByRecursion (λ (other : ℕ). other ≢ id) list → times id list ≡ 0
none_of id [] others = refl
none_of id (x ∷ list) others =
    let rest = none_of id list others.1 in
    let here : one_if (nat_eq id x) ≡ 0 = ap one_if (ne_eqb id x (λ same. others.0 (sym same))) in
    omega (arith, times_cons id x list, rest, here)

at_most_once : (list : List ℕ) → AreDistinct list → (id : ℕ) → times id list ≤ 1
at_most_once [] own id = omega arith
at_most_once (x ∷ list) own id = by (nat_eq id x) refl (at_most_once list own.1 id)
  where
    by : (b : Bool) → nat_eq id x ≡ b → times id list ≤ 1 → times id (x ∷ list) ≤ 1
    by true same rest =
        let here : one_if (nat_eq id x) ≡ 1 = ap one_if same in
        let none : times id list ≡ 0 = none_of id list (subst (λ (k : ℕ). AllByRecursion (λ (other : ℕ). other ≢ k) list) (sym (eqb-true id x same)) own.0) in
        omega (arith, times_cons id x list, here, none)
    by false same rest =
        let here : one_if (nat_eq id x) ≡ 0 = ap one_if same in
        omega (arith, times_cons id x list, here, rest)

once_distinct : (list : List ℕ) → ((id : ℕ) → times id list ≤ 1) → AreDistinct list
once_distinct [] once = tt
once_distinct (x ∷ list) once = (others list (let o = once x in let here : one_if (nat_eq x x) ≡ 1 = ap one_if (eq-eqb x x refl) in omega (arith, o, times_cons x x list, here)), once_distinct list (λ id. let o = once id in omega (arith, o, times_cons id x list)))
  where
    others : (ys : List ℕ) → times x ys ≤ 0 → AllByRecursion (λ (other : ℕ). other ≢ x) ys
    others [] none = tt
    others (y ∷ ys) none = (
      λ same. let here : one_if (nat_eq x y) ≡ 1 = ap one_if (eq-eqb x y (sym same)) in absurd (omega (arith, none, times_cons x y ys, here)),
      others ys (omega (arith, none, times_cons x y ys)),
    )

-- those of the deltas stand among those of the image
deltas_within : (id : ℕ) (stages : Stages) → times id (ids_of stages) ≡ times id (flat_map delta_ids stages)
deltas_within id [] = refl
deltas_within id (s ∷ ss) =
    let rest = deltas_within id ss in
    omega (arith, rest, times_both id (ids s.l1) (ids s.l2 ++ ids_of ss), times_both id (ids s.l2) (ids_of ss), times_both id (delta_ids s) (flat_map delta_ids ss), times_both id (ids s.l2) (ids s.l1))

pub image_distinct : (stages : Stages) → AllPairs (λ (a b : ℕ). a ≢ b) (image_ids stages) → AreDistinct (ids_of stages)
image_distinct stages own =
    let once = at_most_once (image_ids stages) (distinct_by_pairs (image_ids stages) own) in
    once_distinct (ids_of stages) (λ id. let o = once id in omega (arith, o, deltas_within id stages, times_both id (flat_map delta_ids stages) (flat_map part_ids stages)))
