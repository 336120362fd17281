-- Which places stand in the stages of a table once these change.
use Rattle.std.proofs.Common.{◌≡◌, ◌⊎◌, inl, inr, ⊎_elim, ℕ, zero, suc, Bool, true, false, List, [], ◌∷◌, ◌++◌, take, drop, set, refl, sym, subst, arith}
use Rattle.std.specs.Prelude.{Contains}
use Rattle.std.proofs.lemmas.List.{take-append-drop}
use Rattle.std.proofs.lemmas.List.Elements.{Contains-append_left, Contains-append_right, Contains-append_cases}
use Rattle.ut_plain.specs.declared.stage.Placed.{Placed}
use Rattle.ut_plain.specs.declared.stage.TableStages.{TableStages}
use Rattle.ut_plain.specs.Stages.{Stages, no_stages, stages_at, entered, moved}
use Rattle.ut_plain.specs.Capture.{StandsAnywhere}
use Rattle.ut_plain.proofs.MainLemmas.{stages_at-set}
use Rattle.ut_plain.proofs.CaptureLaws.{in_tail}

pub no_element : {X : Type 0} (x : X) → Contains [] x → ⊥
no_element x (i, lt, is) = absurd (omega (arith, lt))

-- the parts of a list have its elements
pub in_take : {X : Type 0} (n : ℕ) (xs : List X) (x : X) → Contains (take n xs) x → Contains xs x
in_take {X = X} n xs x has = subst (λ (ys : List X). Contains ys x) (take-append-drop n xs) (Contains-append_left (take n xs) (drop n xs) x has)

pub in_drop : {X : Type 0} (n : ℕ) (xs : List X) (x : X) → Contains (drop n xs) x → Contains xs x
in_drop {X = X} n xs x has = subst (λ (ys : List X). Contains ys x) (take-append-drop n xs) (Contains-append_right (take n xs) (drop n xs) x has)

-- what holds of each place of all tables still does where one table's stages change
pub changed_one : (Q : ℕ → Placed → Type 0) (stages : Stages) (table : ℕ) (t : TableStages) → ((p : Placed) → StandsAnywhere t p → Q table p)
    → ((n : ℕ) (p : Placed) → StandsAnywhere (stages_at stages n) p → Q n p) → (n : ℕ) (p : Placed) → StandsAnywhere (stages_at (set stages table t) n) p → Q n p
changed_one Q stages table t here all n = stages_at-set (λ (u : TableStages). (p : Placed) → StandsAnywhere u p → Q n p) stages table n t
    (λ e. subst (λ (k : ℕ). (p : Placed) → StandsAnywhere t p → Q k p) (sym e) here) (all n)

-- a table more has empty stages
pub created_one : (Q : ℕ → Placed → Type 0) (stages : Stages) → ((n : ℕ) (p : Placed) → StandsAnywhere (stages_at stages n) p → Q n p)
    → (n : ℕ) (p : Placed) → StandsAnywhere (stages_at (stages ++ no_stages ∷ []) n) p → Q n p
created_one Q stages all n p has = all n p (subst (λ (t : TableStages). StandsAnywhere t p) (empty stages n) has)
  where
    empty : (stages : Stages) (n : ℕ) → stages_at (stages ++ no_stages ∷ []) n ≡ stages_at stages n
    empty [] zero = refl
    empty [] (suc n) = refl
    empty (t ∷ ts) zero = refl
    empty (t ∷ ts) (suc n) = empty ts n

-- ---- one table

-- a row enters
pub in_entered : (bulk : Bool) (row : Placed) (t : TableStages) (p : Placed) → StandsAnywhere (entered bulk row t) p → (row ≡ p) ⊎ StandsAnywhere t p
in_entered false row t p (inl has) = ⊎_elim (λ l. inr (inl l)) (λ l. ⊎_elim (λ e. inl e) (λ none. absurd (no_element p none)) (in_tail row p [] l)) (Contains-append_cases t.l1 (row ∷ []) p has)
in_entered false row t p (inr has) = inr (inr has)
in_entered true row t p (inl has) = inr (inl has)
in_entered true row t p (inr (inl has)) = ⊎_elim (λ l. inr (inr (inl l))) (λ l. ⊎_elim (λ e. inl e) (λ none. absurd (no_element p none)) (in_tail row p [] l)) (Contains-append_cases t.l2 (row ∷ []) p has)
in_entered true row t p (inr (inr has)) = inr (inr (inr has))

-- the first rows move on
pub in_moved : (n : ℕ) (t : TableStages) (p : Placed) → StandsAnywhere (moved n t) p → StandsAnywhere t p
in_moved n t p (inl has) = inl (in_drop n t.l1 p has)
in_moved n t p (inr (inl has)) = ⊎_elim (λ l. inr (inl l)) (λ l. inl (in_take n t.l1 p l)) (Contains-append_cases t.l2 (take n t.l1) p has)
in_moved n t p (inr (inr has)) = inr (inr has)
