-- What is read of the tables and their stages: in the store, and in a plain state that it stands for.
use Rattle.std.proofs.Common.{◌≡◌, ⊎_elim, ℕ, ◌<◌, List, length, map, Option, None, Some, slice_get, refl, sym, ◌∙◌, ap, arith}
use Rattle.std.specs.Option.{option_map, unwrap_or, IsSome}
use Rattle.std.proofs.lemmas.List.{length-map}
use Rattle.std.proofs.lemmas.Option.{slice_get_cases}
use Rattle.ut_plain.specs.declared.stage.Placed.{Placed}
use Rattle.ut_plain.specs.declared.stage.TableStages.{TableStages}
use Rattle.ut_plain.specs.declared.table.Table.{Table}
use Rattle.ut_plain.specs.Plain.{Plain}
use Rattle.ut_plain.specs.Stages.{stages_at}
use Rattle.ut_exact.specs.Places.{StagedRow}
use Rattle.ut_staged.specs.Staged.{Staged, placed_of, stages_of}
use Rattle.ut_staged.proofs.TableLemmas.{stages-here}
use Rattle.ut_store.specs.Held.{Held}
use Rattle.ut_store.specs.Stands.{StandsFor}

-- ---- there is something at a place

none_mapped : {X Y : Type 0} (f : X → Y) (xs : List X) (i : ℕ) → i < length xs → None ≡ option_map f (slice_get xs i) → ⊥
none_mapped f xs i within none =
    ⊎_elim (λ found. let is = none ∙ ap (option_map f) found.2 in cc) (λ past. absurd (omega (arith, past.0, within))) (slice_get_cases xs i).1

-- what is read of the item at a place
pub mapped_some : {X Y : Type 0} (f : X → Y) (xs : List X) (i : ℕ) (o : Option Y) → i < length xs → o ≡ option_map f (slice_get xs i) → IsSome o
mapped_some f xs i None within is = absurd (none_mapped f xs i within is)
mapped_some f xs i (Some y) within is = refl

-- an item, of which the same is read
pub item_some : {X Y Z : Type 0} (g : Z → Y) (f : X → Y) (xs : List X) (i : ℕ) (o : Option Z) → i < length xs → option_map g o ≡ option_map f (slice_get xs i) → IsSome o
item_some g f xs i None within is = absurd (none_mapped f xs i within is)
item_some g f xs i (Some z) within is = refl

-- each table has its stages
pub staged_within : (e : Held) (p : Plain) (place : ℕ) → StandsFor e p → place < length e.rows.tables → place < length e.rows.staged
staged_within e p place stands within =
    let as_many : length e.rows.staged ≡ length e.rows.tables =
    sym (length-map e.rows.staged (λ (s : Staged). s.columns)) ∙ ap length stands.rows.columns ∙ length-map e.rows.tables (λ (t : Table). t.columns) in
    omega (arith, as_many, within)

-- ---- how many rows stand in a stage

module _ (rows_of : Staged → List StagedRow) (placed_in : TableStages → List Placed) (same : (s : Staged) → placed_in (stages_of s) ≡ map placed_of (rows_of s)) where
  -- as many as in that stage of the plain state
  pub plain_length : (e : Held) (p : Plain) (place n : ℕ) → StandsFor e p → option_map (λ (s : Staged). length (rows_of s)) (slice_get e.rows.staged place) ≡ Some n → n ≡ length (placed_in (stages_at p.stages place))
  plain_length e p place n stands is = by_stages (slice_get e.rows.staged place) refl is
    where
      by_stages : (o : Option Staged) → slice_get e.rows.staged place ≡ o → option_map (λ (s : Staged). length (rows_of s)) o ≡ Some n → n ≡ length (placed_in (stages_at p.stages place))
      by_stages None at counted = cc
      by_stages (Some s) at counted =
          let here : stages_at p.stages place ≡ stages_of s = ap (λ x. stages_at x place) stands.rows.stages ∙ stages-here e.rows.staged place s at in
          sym (ap (λ o. unwrap_or o 0) counted) ∙ sym (length-map (rows_of s) placed_of) ∙ ap length (sym (same s)) ∙ ap (λ t. length (placed_in t)) (sym here)
