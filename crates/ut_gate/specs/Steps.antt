-- What the steps of one pass ask and promise.
use Rattle.std.specs.Prelude.{◌≡◌, ℕ, ◌≤◌, List, [], ◌∷◌, Option}
use mathlib.Core.Option as M
use mathlib.Core.List.{IsPrefix}
use lib.ListN.{get_elem?}
use Rattle.atomic_table.specs.Table.{Me}
use Rattle.atomic_table.specs.Seated.{TableId}
use Rattle.atomic_table.specs.declared.shared.Seat.{Seat}
use Rattle.ut_gate.specs.declared.view.Home.{Home}
use Rattle.ut_gate.specs.declared.view.Stage.TheVariants.{Away, Waits, Holds}
use Rattle.ut_gate.specs.declared.view.View.{View}
use Rattle.ut_gate.specs.Counts.{times, word_of}
use Rattle.ut_gate.specs.Turns.{AddsOne, MayChange}
use Rattle.ut_gate.specs.Tells.{staged, view_after, Gets, book_of, job_of, ticket_of}

module _ {X J S : Type 0} where
  -- the seat is at this gate
  abbrev pub IsAt : TableId → Seat (Home S) (View X J) → Type 0
  IsAt gate seat = (seat.table_id ≡ gate) × (gate.words ≡ 2) × (gate.slots ≡ 1)

  -- the pass is not in the line
  abbrev pub IsIdle : Seat (Home S) (View X J) → Type 0
  IsIdle seat = (seat.me.0.stage ≡ Away) × (seat.me.1 ≡ [])

  -- the pass was idle, and is at its turn
  abbrev pub HasTurn : (S → List X) → (S → Option J) → (S → Type 0) → Me (Home S) (View X J)
      → Me (Home S) (View X J) → Type 0
  HasTurn book job good m m' = (t : ℕ) × Gets book job good t m m'

  -- the pass has drawn a ticket since it was at m
  abbrev pub IsWaiting : ℕ → Me (Home S) (View X J) → Me (Home S) (View X J) → Type 0
  IsWaiting found m m' = (t : ℕ) × (found ≡ word_of t) × (m' ≡ (staged m.0 (Waits t), m.1))

  module _ (book : S → List X) (job : S → Option J) (good : S → Type 0) where
    -- the pass is at its turn, with the value as it found it
    pub record IsAtTurn (m : Me (Home S) (View X J)) : Type 0 where
      pub ticket : ℕ
      pub home : Home S
      pub out : m.1 ≡ (0, home) ∷ []
      pub stage : m.0.stage ≡ Holds ticket (book home.value) (job home.value)
      pub turns : home.turns ≡ word_of ticket
      pub fits : good home.value

    -- the pass is at its turn, and what became of the value may go home
    pub record MayLeave (m : Me (Home S) (View X J)) : Type 0 where
      pub home : Home S
      pub out : m.1 ≡ (0, home) ∷ []
      pub stage : m.0.stage ≡ Holds (ticket_of m.0.stage) (book_of m.0.stage) (job_of m.0.stage)
      pub turns : home.turns ≡ word_of (ticket_of m.0.stage)
      pub fits : good home.value
      pub adds : AddsOne (book_of m.0.stage) (book home.value)
      pub may : MayChange (job_of m.0.stage) (job home.value) m.0.job

    -- the value is home again, and the pass has left the line
    abbrev pub HasLeft : Me (Home S) (View X J) → Me (Home S) (View X J) → Type 0
    HasLeft m m' = (y : Home S) → m.1 ≡ (0, y) ∷ [] → m' ≡ (view_after book job good m.0 y.value, [])

  -- the value has the ground, its book begins with all that the pass saw or was told, and none of its places is twice its own
  pub record IsLast (book : S → List X) (good : S → Type 0) (v : View X J) (value : S) : Type 0 where
    pub ground : good value
    pub seen : IsPrefix v.seen (book value)
    pub told : (b : List X) (k : ℕ) → get_elem? v.told k ≡ M.some b → IsPrefix b (book value)
    pub apart : (p : ℕ) → times p v.own ≤ 1
