-- A merge into main holds places that stood in its table before.
use Rattle.std.proofs.Common.{inl, inr, ⊎_elim, Bool, true, false, cond, List, [], ◌∷◌, ◌++◌, length, take, drop, refl, sym, subst}
use Rattle.std.specs.Prelude.{Contains}
use Rattle.std.specs.Option.{unwrap_or}
use Rattle.std.specs.Ordering.{is_lt}
use Rattle.std.proofs.lemmas.List.Elements.{Contains-append_cases}
use Rattle.ut_value.specs.declared.entry.MergeKind.{MergeKind}
use Rattle.ut_value.specs.declared.entry.MergeKind.TheVariants as kinds
use Rattle.ut_plain.specs.declared.stage.Placed.{Placed}
use Rattle.ut_plain.specs.declared.stage.TableStages.{TableStages}
use Rattle.ut_plain.specs.Journal.{Journal}
use Rattle.ut_plain.specs.Plain.{Sessions}
use Rattle.ut_plain.specs.Merges.{staying, rebuilt, flagged, flagged_all, put, in_order, arranged, merged, closing, switched, place_cmp, column_order}
use Rattle.ut_plain.specs.Capture.{StandsAnywhere}
use Rattle.ut_plain.proofs.CaptureLaws.{first_in, later_in, in_tail}
use Rattle.ut_placed.proofs.StandLemmas.{no_element, in_take, in_drop}

-- ---- lists

in_flagged : (xs : List Placed) (flags : List Bool) (x : Placed) → Contains (flagged xs flags) x → Contains xs x
in_flagged [] flags x has = absurd (no_element x has)
in_flagged (y ∷ xs) [] x has = absurd (no_element x has)
in_flagged (y ∷ xs) (flag ∷ flags) x has = by flag (λ rest. in_flagged xs flags x rest) has
  where
    by : (b : Bool) → (Contains (flagged xs flags) x → Contains xs x) → Contains (cond b (y ∷ flagged xs flags) (flagged xs flags)) x → Contains (y ∷ xs) x
    by true more has = ⊎_elim (λ same. first_in y x xs same) (λ rest. later_in y x xs (more rest)) (in_tail y x (flagged xs flags) has)
    by false more has = later_in y x xs (more has)

in_flagged_all : (lists : List (List Placed)) (keep : List (List Bool)) (x : Placed) → Contains (flagged_all lists keep) x → (xs : List Placed) × Contains lists xs × Contains xs x
in_flagged_all [] keep x has = absurd (no_element x has)
in_flagged_all (xs ∷ lists) [] x has = absurd (no_element x has)
in_flagged_all (xs ∷ lists) (flags ∷ keep) x has = ⊎_elim
    (λ here. (xs, first_in xs xs lists refl, in_flagged xs flags x here))
    (λ rest. let found = in_flagged_all lists keep x rest in (found.0, later_in xs found.0 lists found.1, found.2))
    (Contains-append_cases (flagged xs flags) (flagged_all lists keep) x has)

in_put : (before : Placed → Placed → Bool) (x : Placed) (ys : List Placed) (z : Placed) → Contains (put before x ys) z → Contains (x ∷ ys) z
in_put before x [] z has = has
in_put before x (y ∷ ys) z has = by (before y x) (λ rest. in_put before x ys z rest) has
  where
    by : (b : Bool) → (Contains (put before x ys) z → Contains (x ∷ ys) z) → Contains (cond b (y ∷ put before x ys) (x ∷ y ∷ ys)) z → Contains (x ∷ y ∷ ys) z
    by true within has = ⊎_elim
        (λ same. later_in x z (y ∷ ys) (first_in y z ys same))
        (λ rest. ⊎_elim (λ same. first_in x z (y ∷ ys) same) (λ more. later_in x z (y ∷ ys) (later_in y z ys more)) (in_tail x z ys (within rest)))
        (in_tail y z (put before x ys) has)
    by false within has = has

in_ordered : (before : Placed → Placed → Bool) (xs : List Placed) (z : Placed) → Contains (in_order before xs) z → Contains xs z
in_ordered before [] z has = has
in_ordered before (x ∷ xs) z has = ⊎_elim
    (λ same. first_in x z xs same) (λ rest. later_in x z xs (in_ordered before xs z rest))
    (in_tail x z (in_order before xs) (in_put before x (in_order before xs) z has))

in_arranged : (kind : MergeKind) (xs : List Placed) (z : Placed) → Contains (arranged kind xs) z → Contains xs z
in_arranged kinds.Classic xs z has = has
in_arranged kinds.Resort xs z has = in_ordered (λ a b. is_lt (place_cmp (column_order xs) a b)) xs z has
in_arranged kinds.Partial xs z has = has
in_arranged kinds.Extend xs z has = has

-- ---- begin and end

pub in_closing : (j : Journal) (sessions : Sessions) (kind : MergeKind) (t : TableStages) (p : Placed) → StandsAnywhere (closing j sessions kind t) p → StandsAnywhere t p
in_closing j sessions kind t p (inl has) = inl has
in_closing j sessions kind t p (inr (inl none)) = absurd (no_element p none)
in_closing j sessions kind t p (inr (inr (inl has))) = inr (inl has)
in_closing j sessions kind t p (inr (inr (inr has))) = inr (inr (inr has))

-- a part behind a merge stood before, or has rows that did
in_merged : (kind : MergeKind) (t : TableStages) (part : List Placed) (p : Placed) → Contains (merged kind t.parts (unwrap_or t.closed []) t.keep) part → Contains part p → StandsAnywhere t p
in_merged kind t part p there has = ⊎_elim
    (λ stays. inr (inr (inr (part, in_take (staying kind (length t.parts)) t.parts part stays, has))))
    (λ new. ⊎_elim (λ same. built (subst (λ (places : List Placed). Contains places p) (sym same) has)) (λ none. absurd (no_element part none)) (in_tail _ part [] new))
    (Contains-append_cases (take (staying kind (length t.parts)) t.parts) _ part there)
  where
    lists : List (List Placed)
    lists = rebuilt kind t.parts (unwrap_or t.closed [])

    keep : List (List Bool)
    keep = drop (staying kind (length t.parts)) t.keep

    old : (places : List Placed) → Contains (t.parts ++ unwrap_or t.closed [] ∷ []) places → Contains places p → StandsAnywhere t p
    old places there has = ⊎_elim
        (λ part. inr (inr (inr (places, part, has))))
        (λ closed. ⊎_elim (λ same. inr (inr (inl (subst (λ (xs : List Placed). Contains xs p) (sym same) has)))) (λ none. absurd (no_element places none)) (in_tail (unwrap_or t.closed []) places [] closed))
        (Contains-append_cases t.parts (unwrap_or t.closed [] ∷ []) places there)

    built : Contains (arranged kind (flagged_all lists keep)) p → StandsAnywhere t p
    built has =
        let found = in_flagged_all lists keep p (in_arranged kind (flagged_all lists keep) p has) in
        old found.0 (in_drop (staying kind (length t.parts)) (t.parts ++ unwrap_or t.closed [] ∷ []) found.0 found.1) found.2

pub in_switched : (kind : MergeKind) (t : TableStages) (p : Placed) → StandsAnywhere (switched kind t) p → StandsAnywhere t p
in_switched kind t p (inl has) = inl has
in_switched kind t p (inr (inl has)) = inr (inl has)
in_switched kind t p (inr (inr (inl none))) = absurd (no_element p none)
in_switched kind t p (inr (inr (inr (part, there, has)))) = in_merged kind t part p there has
