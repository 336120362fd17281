-- What a replayed delete does to the places of a table: the one of its row that isn't dead yet is marked, the others stay.
use Rattle.std.specs.Prelude.{◌≡◌, ℕ, true, false, All, List, [], ◌∷◌, ◌++◌, flat_map}
use Rattle.std.specs.Option.{unwrap_or}
use Rattle.ut_plain.specs.declared.stage.Placed.{Placed}
use Rattle.ut_plain.specs.declared.stage.TableStages.{TableStages}
use Rattle.ut_plain.specs.Stages.{shape_of}
use Rattle.ut_plain.specs.Restart.{with_dead}

-- all places of a table, stage by stage
abbrev pub places_in : TableStages → List Placed
places_in t = t.l1 ++ (t.l2 ++ (unwrap_or t.closed [] ++ flat_map (λ (part : List Placed). part) t.parts))

-- each of these that holds the row is dead already
abbrev pub HoldNoLive : ℕ → List Placed → Type 0
HoldNoLive id places = All (λ (place : Placed). place.id ≡ id → place.dead ≡ true) places

-- Where one place that isn't dead holds the row it is marked, and no other place changes.
abbrev pub MarksOne : Type 0
MarksOne =
    (id : ℕ) (t : TableStages) (front back : List Placed) (place : Placed)
    → places_in t ≡ front ++ place ∷ back → place.id ≡ id → place.dead ≡ false → HoldNoLive id (front ++ back)
    → places_in (with_dead id t) ≡ front ++ record place { dead = true } ∷ back

-- Where none does nothing changes.
abbrev pub MarksNone : Type 0
MarksNone = (id : ℕ) (t : TableStages) → HoldNoLive id (places_in t) → places_in (with_dead id t) ≡ places_in t

-- Each stage has as many places as before, and what a pending merge keeps stays as it is.
abbrev pub KeepsShape : Type 0
KeepsShape = (id : ℕ) (t : TableStages) → (shape_of (with_dead id t) ≡ shape_of t) × ((with_dead id t).keep ≡ t.keep)
