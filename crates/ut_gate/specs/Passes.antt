-- What a contract sees of a pass, and what a turn does.
use Rattle.std.specs.Prelude.{◌≡◌, ℕ, ◌≤◌, ◌⊎◌, List, [], Option, None}
use mathlib.Core.List.{IsPrefix}
use mathlib.Core.Option.{some}
use lib.ListN.{get_elem?}
use Rattle.atomic_table.specs.Seated.{TableId}
use Rattle.atomic_table.specs.declared.shared.Seat.{Seat}
use Rattle.ut_gate.specs.declared.held.Slip.{Slip}
use Rattle.ut_gate.specs.declared.view.Home.{Home}
use Rattle.ut_gate.specs.declared.view.Stage.TheVariants.{Away}
use Rattle.ut_gate.specs.declared.view.View.{View}
use Rattle.ut_gate.specs.Counts.{total, times}
use Rattle.ut_gate.specs.Turns.{AddsOne, MeetsJob, KeepsJob}
use Rattle.ut_gate.specs.Tells.{own_after}

-- a pass: its gate, the book that it saw last, the places of its own entries, and its slip's job
pub record Carried (X J : Type 0) : Type 0 where
  pub gate : TableId
  pub seen : List X
  pub own : List ℕ
  pub job : Option J

-- a pass of a new gate
abbrev pub fresh : {X J : Type 0} → TableId → Carried X J
fresh gate = record { gate = gate; seen = []; own = []; job = None }

-- the slip of a pass
abbrev pub slip_of : {X J : Type 0} → Carried X J → Slip J
slip_of p = record { job = p.job }

-- one turn of the pass p, which became q: the act ran once, on a value that was then `before`
pub record Turn
    {X J S : Type 0} (book : S → List X) (job : S → Option J) (good : S → Type 0) (relates : S → S → Type 0)
    (p q : Carried X J) : Type 0 where
  pub before : S
  pub after : S
  -- the value has the ground, before and after
  pub ground : good before × good after
  -- its book begins with all that the pass had seen, and a job of the pass is its job
  pub seen : IsPrefix p.seen (book before)
  pub meets : MeetsJob (job before) p.job
  -- what was done is what the act does
  pub done : relates before after
  pub grows : AddsOne (book before) (book after)
  pub jobs : KeepsJob (job before) (job after) p.job q.job
  -- the pass has seen the book that the act left, and keeps the place of an entry that it added
  pub sees : q.seen ≡ book after
  pub own : q.own ≡ own_after p.own (book before) (book after)
  pub gate : q.gate ≡ p.gate

-- no place belongs to two passes, nor twice to one
abbrev pub Apart : {X J : Type 0} → List (Carried X J) → Type 0
Apart {X} {J} passes = (n : ℕ) → total (λ (p : Carried X J). times n p.own) passes ≤ 1

-- a pass with no ticket and no slot, to which no other was joined
abbrev pub IsAway : {X J S : Type 0} → Seat (Home S) (View X J) → Option J → Type 0
IsAway seat job =
    (seat.me.0.stage ≡ Away)
    × (seat.me.1 ≡ [])
    × (seat.me.0.job ≡ job)
    × (seat.me.0.told ≡ [])
    × (seat.table_id.words ≡ 2)
    × (seat.table_id.slots ≡ 1)

-- what a contract sees of a seat and its slip's job
abbrev pub carried : {X J S : Type 0} → Seat (Home S) (View X J) → Option J → Carried X J
carried seat job =
    record { gate = seat.table_id; seen = seat.me.0.seen; own = seat.me.0.own; job = job }

-- the pass with this view was made of these
pub record Gathered {X J : Type 0} (taken : List (Carried X J)) (v : View X J) : Type 0 where
  pub seen : (i : ℕ) (p : Carried X J) → get_elem? taken i ≡ some p → (p.seen ≡ v.seen) ⊎ ((k : ℕ) × (get_elem? v.told k ≡ some p.seen))
  pub own : (n : ℕ) → times n v.own ≡ total (λ (p : Carried X J). times n p.own) taken
  pub away : v.stage ≡ Away
