-- A place that is given to the transaction that never commits: what a replay does to the row that a logged delete concerns.
use Rattle.std.proofs.Common.{◌≡◌, inl, inr, ℕ, zero, suc, Bool, true, cond, List, [], ◌∷◌, map, refl, sym, ◌∙◌, ap}
use Rattle.std.proofs.lemmas.Bool.{cases_eq, eq-eqb, ne_eqb}
use Rattle.ut_plain.specs.declared.stage.Placed.{Placed}
use Rattle.ut_plain.specs.Restart.{buried}
use Rattle.ut_exact.specs.Places.{StagedRow, is_dead, dead_number}
use Rattle.ut_exact.proofs.CaptureLemmas.{place_of}

-- each place that holds this id is dead
abbrev pub NoneLive : ℕ → List StagedRow → Type 0
NoneLive id [] = Unit {0}
NoneLive id (row ∷ rows) = (row.id ≡ id → is_dead row.stamp ≡ true) × NoneLive id rows

-- the place i holds it, and each other one that does is dead
abbrev pub OnlyLive : ℕ → ℕ → List StagedRow → Type 0
OnlyLive id i [] = ⊥
OnlyLive id zero (row ∷ rows) = (row.id ≡ id) × NoneLive id rows
OnlyLive id (suc i) (row ∷ rows) = (row.id ≡ id → is_dead row.stamp ≡ true) × OnlyLive id i rows

-- a place that is dead already, or holds another row
same_place : (id : ℕ) (row : StagedRow) → (row.id ≡ id → is_dead row.stamp ≡ true) → buried id (place_of row) ≡ place_of row
same_place id row dead = elim (cases_eq row.id id) [
  | inl is ↦ ap (λ (b : Bool). cond b (record { id = row.id; values = row.values; dead = true }) (place_of row)) (eq-eqb row.id id is) ∙ ap (λ (b : Bool). record { id = row.id; values = row.values; dead = b }) (sym (dead is))
  | inr differs ↦ ap (λ (b : Bool). cond b (record { id = row.id; values = row.values; dead = true }) (place_of row)) (ne_eqb row.id id differs)
]
