-- Pairs of a left and a right row, one list of each.
use Rattle.std.proofs.Common.{ℕ, ◌+◌, ◌<◌, ◌≡◌, List, [], ◌∷◌, ◌++◌, length, map, get_or, drop, All, Bor, IsTrue, refl, sym, ap, ◌∙◌, arith}
use Rattle.std.specs.List.{flat_map}
use Rattle.std.specs.Option.{option_map}
use Rattle.std.proofs.lemmas.Option.{slice_get-map, slice_get_read}
use Rattle.std.proofs.lemmas.List.{length-append, length-map}
use Rattle.std.proofs.lemmas.List.Elements.{All-append}
use Rattle.ut_value.specs.declared.value.Value.{Value}
use Rattle.ut_rows.specs.Columns.{values_at as values_in}
use Rattle.ut_scan.specs.declared.place.Found.{Found}
use Rattle.ut_staged.specs.Staged.{Staged, row_at}
use Rattle.ut_ops.specs.Fit.{Fit, is_row, values_at}
use Rattle.ut_ops.specs.Index.{lists_now, beside, beside_each}
use Rattle.ut_ops.proofs.ColumnLemmas.{fit_first, fit_rest, all_cons}
use Rattle.ut_ops.proofs.SeenLemmas.{place-there, place-inside, at-place}
use Rattle.ut_ops.proofs.JoinLemmas.{flat_more}

-- a row, as often as there are others
abbrev pub repeated : Found → List Found → List Found
repeated f gs = map (λ g. f) gs

beside-append : (l r : Staged) (fs more gs others : List Found) → length fs ≡ length gs → beside_each l (fs ++ more) r (gs ++ others) ≡ beside_each l fs r gs ++ beside_each l more r others
beside-append l r [] more [] others long = refl
beside-append l r [] more (g ∷ gs) others long = absurd (omega (arith, long))
beside-append l r (f ∷ fs) more [] others long = absurd (omega (arith, long))
beside-append l r (f ∷ fs) more (g ∷ gs) others long = λ i. (values_at l f ++ values_at r g) ∷ beside-append l r fs more gs others (omega (arith, long)) i

beside-one : (l r : Staged) (f : Found) (gs : List Found) → beside_each l (repeated f gs) r gs ≡ beside (values_at l f) r gs
beside-one l r f [] = refl
beside-one l r f (g ∷ gs) = λ i. (values_at l f ++ values_at r g) ∷ beside-one l r f gs i

-- each row beside its others
pub beside-all : (l r : Staged) (h : Found → List Found) (fs : List Found) → beside_each l (flat_map (λ f. repeated f (h f)) fs) r (flat_map h fs) ≡ flat_map (λ f. beside (values_at l f) r (h f)) fs
beside-all l r h [] = refl
beside-all l r h (f ∷ fs) =
    beside-append l r (repeated f (h f)) (flat_map (λ f. repeated f (h f)) fs) (h f) (flat_map h fs) (length-map (h f) (λ g. f))
    ∙ (λ i. beside-one l r f (h f) i ++ beside-all l r h fs i)

pub pairs-alike : (h : Found → List Found) (fs : List Found) → length (flat_map h fs) ≡ length (flat_map (λ f. repeated f (h f)) fs)
pairs-alike h [] = refl
pairs-alike h (f ∷ fs) =
    length-append (h f) (flat_map h fs)
    ∙ (λ i. sym (length-map (h f) (λ g. f)) i + pairs-alike h fs i)
    ∙ sym (length-append (repeated f (h f)) (flat_map (λ f. repeated f (h f)) fs))

-- ---- rows that fit

fit-append : (s : Staged) (fs gs : List Found) → Fit s fs → Fit s gs → Fit s (fs ++ gs)
fit-append s fs gs fit other = record { each = All-append (λ (g : Found). IsTrue (is_row s.columns (row_at s g.place))) fs gs fit.each other.each }

fit-none : (s : Staged) → Fit s []
fit-none s = record { each = λ k d h. absurd (omega arith) }

fit-repeated : (s : Staged) (f : Found) (gs : List Found) → IsTrue (is_row s.columns (row_at s f.place)) → Fit s (repeated f gs)
fit-repeated s f [] is = fit-none s
fit-repeated s f (g ∷ gs) is = record { each = all_cons (λ (h : Found). IsTrue (is_row s.columns (row_at s h.place))) f (repeated f gs) is (fit-repeated s f gs is).each }

pub lefts-fit : (s : Staged) (h : Found → List Found) (fs : List Found) → Fit s fs → Fit s (flat_map (λ f. repeated f (h f)) fs)
lefts-fit s h [] fit = fit
lefts-fit s h (f ∷ fs) fit = fit-append s (repeated f (h f)) (flat_map (λ f. repeated f (h f)) fs) (fit-repeated s f (h f) (fit_first s f fs fit)) (lefts-fit s h fs (fit_rest s f fs fit))

pub rights-fit : (s : Staged) (h : Found → List Found) (fs : List Found) → ((f : Found) → Fit s (h f)) → Fit s (flat_map h fs)
rights-fit s h [] fit = fit-none s
rights-fit s h (f ∷ fs) fit = fit-append s (h f) (flat_map h fs) (fit f) (rights-fit s h fs fit)

-- the pairs of one left row more
pub pairs-next : (h : Found → List Found) (fs : List Found) (i : ℕ) (d : Found) (gs lefts new_lefts rights new_rights : List Found) → i < length fs → gs ≡ h (get_or fs i d)
    → new_lefts ≡ lefts ++ repeated (get_or fs i d) gs → new_rights ≡ rights ++ gs
    → lefts ++ flat_map (λ f. repeated f (h f)) (drop i fs) ≡ flat_map (λ f. repeated f (h f)) fs → rights ++ flat_map h (drop i fs) ≡ flat_map h fs
    → (new_lefts ++ flat_map (λ f. repeated f (h f)) (drop (i + 1) fs) ≡ flat_map (λ f. repeated f (h f)) fs) × (new_rights ++ flat_map h (drop (i + 1) fs) ≡ flat_map h fs)
pairs-next h fs i d gs lefts new_lefts rights new_rights lt is left right before after = (
  flat_more (λ f. repeated f (h f)) fs i d lefts (repeated (get_or fs i d) gs) new_lefts (flat_map (λ f. repeated f (h f)) fs) lt (ap (repeated (get_or fs i d)) is) left before,
  flat_more h fs i d rights gs new_rights (flat_map h fs) lt is right after,
)

-- ---- the partners of each value that was read

pub partners-there : (h : Value → List Found) (f : Found → Value) (hits : List Found) (vs : List Value) (ps : List ℕ) (lists : List (Bor (List Found))) (i p : ℕ) → i < length hits → All (λ q. q < length vs) ps → values_in vs ps ≡ map f hits
    → lists_now lists ≡ map h vs → p ≡ get_or ps i p → p < length lists
partners-there h f hits vs ps lists i p lt inside read is at =
    let there : i < length ps = omega (arith, lt, place-there f hits vs ps read) in
    omega (arith, place-inside h vs ps (lists_now lists) i p inside is there at, length-map lists (λ (l : Bor (List Found)). l.now))

pub partners-read : (h : Value → List Found) (f : Found → Value) (hits : List Found) (vs : List Value) (ps : List ℕ) (lists : List (Bor (List Found))) (i p : ℕ) (d : Found) (others : Bor (List Found)) → i < length hits → All (λ q. q < length vs) ps → values_in vs ps ≡ map f hits
    → lists_now lists ≡ map h vs → p ≡ get_or ps i p → others ≡ get_or lists p others → others.now ≡ h (f (get_or hits i d))
partners-read h f hits vs ps lists i p d others lt inside read is at found =
    at-place f h hits vs ps (lists_now lists) i p d others.now lt inside read is at
    (slice_get-map (λ (l : Bor (List Found)). l.now) lists p ∙ ap (option_map (λ (l : Bor (List Found)). l.now)) (slice_get_read lists (length lists) p others refl (partners-there h f hits vs ps lists i p lt inside read is at) found))
