-- Those with a flag, where nothing is left.
use Rattle.std.proofs.Common.{◌≡◌, ℕ, zero, suc, ◌+◌, ◌⊎◌, inl, inr, Bool, true, false, ◌&&◌, not, nat_eq, List, [], ◌∷◌, ◌++◌, length, map, min, take, drop, refl, sym, ap, ◌∙◌, arith}
use Rattle.std.proofs.lemmas.List.{take_min, drop_min}
use Rattle.std.specs.List.{list_any}
use Rattle.ut_plain.specs.declared.stage.Placed.{Placed}
use Rattle.ut_plain.specs.declared.stage.TableStages.{TableStages}
use Rattle.ut_value.specs.declared.entry.MergeKind.{MergeKind}
use Rattle.ut_plain.specs.Journal.{Journal}
use Rattle.ut_plain.specs.Plain.{Sessions}
use Rattle.ut_plain.specs.Merges.{is_kept, all_kept, flags, flagged, flagged_all, staying, closing}
use Rattle.check_stages.specs.Needed.{AreNeeded, is_kept_by, flags_by}

append_nothing : {X : Type 0} (xs : List X) → xs ++ [] ≡ xs
append_nothing [] = refl
append_nothing (x ∷ xs) = ap (λ ys. x ∷ ys) (append_nothing xs)

-- ---- no list is left, or no flag

flagged_nothing : {X : Type 0} (xs : List X) (keep : List Bool) → (length xs ≡ 0) ⊎ (length keep ≡ 0) → flagged xs keep ≡ []
flagged_nothing [] keep h = refl
flagged_nothing (x ∷ xs) [] h = refl
flagged_nothing (x ∷ xs) (flag ∷ keep) (inl e) = absurd (omega (arith, e))
flagged_nothing (x ∷ xs) (flag ∷ keep) (inr e) = absurd (omega (arith, e))

pub flagged_end : {X : Type 0} (kept all xs : List X) (keep : List Bool) → (length xs ≡ 0) ⊎ (length keep ≡ 0) → kept ++ flagged xs keep ≡ all → kept ≡ all
flagged_end kept all xs keep h is = sym (append_nothing kept) ∙ ap (λ ys. kept ++ ys) (sym (flagged_nothing xs keep h)) ∙ is

flagged_all_nothing : {X : Type 0} (lists : List (List X)) (keep : List (List Bool)) → (length lists ≡ 0) ⊎ (length keep ≡ 0) → flagged_all lists keep ≡ []
flagged_all_nothing [] keep h = refl
flagged_all_nothing (xs ∷ lists) [] h = refl
flagged_all_nothing (xs ∷ lists) (flags ∷ keep) (inl e) = absurd (omega (arith, e))
flagged_all_nothing (xs ∷ lists) (flags ∷ keep) (inr e) = absurd (omega (arith, e))

pub flagged_all_end : {X : Type 0} (kept all : List X) (lists : List (List X)) (keep : List (List Bool)) → (length lists ≡ 0) ⊎ (length keep ≡ 0) → kept ++ flagged_all lists keep ≡ all → kept ≡ all
flagged_all_end kept all lists keep h is = sym (append_nothing kept) ∙ ap (λ ys. kept ++ ys) (sym (flagged_all_nothing lists keep h)) ∙ is
