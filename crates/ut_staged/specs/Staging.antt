-- What a change of rows makes of the stages.
use Rattle.std.specs.Prelude.{ℕ, ◌+◌, ◌≡◌, Bool, false, List, [], ◌∷◌, map, Option, None, Some}
use Rattle.ut_value.specs.declared.value.Value.{Value}
use Rattle.ut_value.specs.declared.entry.Op.{Op}
use Rattle.ut_value.specs.declared.entry.Op.TheVariants as ops
use Rattle.ut_plain.specs.Rows.{inserts_of}
use Rattle.ut_plain.specs.Stages.{with_inserts}
use Rattle.ut_stamps.specs.declared.place.Place.{Place}
use Rattle.ut_stamps.specs.declared.fates.Fate.{Fate}
use Rattle.ut_plain.specs.Plain.{Sessions}
use Rattle.ut_exact.specs.Gone.{IsGone}
use Rattle.ut_exact.specs.Stamped.{Stamped}
use Rattle.ut_exact.specs.Work.{applied, AreFree}
use Rattle.ut_exact.specs.Places.{StagedRow, is_dead, AreHeld}
use Rattle.ut_staged.specs.Staged.{Staged, row_at, entered_l1, ended_in, stages_of}
use Rattle.ut_staged.specs.Tables.{place_at}

-- The stages after these operations of a running transaction, with new rows in the first stage or loaded in bulk into the second.
pub record Staging (old new : List Staged) (number : ℕ) (bulk : Bool) (next : ℕ) (os : List Op) : Type 0 where
  pub places : (fates : List Fate) (sessions : Sessions) (held : ℕ → Option Stamped) → AreFree held next
      → AreHeld (place_at old) (IsGone fates sessions) held
      → AreHeld (place_at new) (IsGone fates sessions) (applied number held os)
  pub free : (held : ℕ → Option Stamped) → AreFree held next → AreFree (applied number held os) (next + inserts_of os)
  pub stages : map stages_of new ≡ with_inserts bulk (map stages_of old) os
  pub columns : map (λ (s : Staged). s.columns) new ≡ map (λ (s : Staged). s.columns) old
  pub merges : map (λ (s : Staged). s.merge) new ≡ map (λ (s : Staged). s.merge) old

-- a row that a transaction begins
abbrev pub new_row : ℕ → ℕ → List Value → StagedRow
new_row number id values = record { id = id; values = values; stamp = record { begin = number; end = None } }

-- rows that it begins, under the ids from a number on
abbrev pub new_rows : ℕ → ℕ → List (List Value) → List StagedRow
new_rows number id [] = []
new_rows number id (values ∷ rows) = new_row number id values ∷ new_rows number (id + 1) rows

-- the stages with an end at each place that was found
abbrev pub ended_all : ℕ → List (ℕ × Place) → Staged → Staged
ended_all number [] s = s
ended_all number (e ∷ es) s = ended_all number es (ended_in number e.1 s)

-- The same with a changed copy of each row behind the first stage.
abbrev pub updated_all : ℕ → ℕ → List (ℕ × Place) → List (List Value) → Staged → Staged
updated_all number id [] rows s = s
updated_all number id (e ∷ es) [] s = s
updated_all number id (e ∷ es) (values ∷ rows) s =
    updated_all number (id + 1) es rows (entered_l1 (new_row number id values) (ended_in number e.1 s))

-- each place that was found holds the row of its id, and is somebody's
abbrev pub AreFound : Staged → List (ℕ × Place) → Type 0
AreFound s [] = Unit {0}
AreFound s (e ∷ es) = (row : StagedRow) × (row_at s e.1 ≡ Some row) × (row.id ≡ e.0) × (is_dead row.stamp ≡ false) × AreFound s es

-- The stages after operations of a transaction: each delete ends the next place that was found, each insert enters the first stage.
abbrev pub written : ℕ → List Op → List (ℕ × Place) → Staged → Staged
written number [] hits s = s
written number (ops.Insert table id values ∷ os) hits s = written number os hits (entered_l1 (new_row number id values) s)
written number (ops.Delete table id ∷ os) [] s = s
written number (ops.Delete table id ∷ os) (h ∷ hits) s = written number os hits (ended_in number h.1 s)
