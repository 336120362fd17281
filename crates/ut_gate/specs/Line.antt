-- The rule of the gate: two words, ticket and serving, one slot, and what each pass knows.
use Rattle.std.specs.Prelude.{◌≡◌, ◌≢◌, ℕ, ◌+◌, ◌<◌, ◌≤◌, ◌==◌, ◌⊎◌, Bool, true, false, List, [], ◌∷◌, length, Option, Some, None}
use mathlib.Core.Option as M
use mathlib.Core.List.{IsPrefix}
use lib.ListN.{get_elem?}
use Rattle.atomic_table.specs.Table.{State}
use Rattle.ut_gate.specs.declared.view.Home.{Home}
use Rattle.ut_gate.specs.declared.view.Stage.{Stage}
use Rattle.ut_gate.specs.declared.view.Stage.TheVariants.{Away, Waits, Holds, Ends}
use Rattle.ut_gate.specs.declared.view.View.{View}
use Rattle.ut_gate.specs.Counts.{total, one_if, times, word_of}

module _ {X J : Type 0} where
  -- 1 for a pass in the line, at its turn or not
  abbrev pub queued : Stage X J → ℕ
  queued Away = 0
  queued (Waits t) = 1
  queued (Holds t b k) = 1
  queued (Ends t) = 1

  -- 1 for a pass with this ticket
  abbrev pub queued_at : ℕ → Stage X J → ℕ
  queued_at n Away = 0
  queued_at n (Waits t) = one_if (t == n)
  queued_at n (Holds t b k) = one_if (t == n)
  queued_at n (Ends t) = one_if (t == n)

  -- whether a pass is at its turn, with the value
  abbrev pub has_turn : Stage X J → Bool
  has_turn Away = false
  has_turn (Waits t) = false
  has_turn (Holds t b k) = true
  has_turn (Ends t) = false

  -- a ticket is in the line; who has the turn is the first, and has noted the book and the job
  abbrev pub InLine : ℕ → ℕ → List X → Option J → Stage X J → Type 0
  InLine first past log held Away = Unit {0}
  InLine first past log held (Waits t) = (first ≤ t) × (t < past)
  InLine first past log held (Holds t b k) = (t ≡ first) × (first < past) × (b ≡ log) × (k ≡ held)
  InLine first past log held (Ends t) = (t ≡ first) × (first < past)

  -- what is true of the pass with this seat
  pub record Knows (first past : ℕ) (log : List X) (held : Option J) (owner seat : ℕ) (v : View X J) : Type 0 where
    pub line : InLine first past log held v.stage
    -- every seen book begins the value's
    pub seen : IsPrefix v.seen log
    pub told : (b : List X) → (k : ℕ) → get_elem? v.told k ≡ M.some b → IsPrefix b log
    -- its own entries stand in the value's book
    pub own : (k p : ℕ) → get_elem? v.own k ≡ M.some p → p < length log
    -- the value's job is its owner's, and nobody else has one
    pub mine : seat ≡ owner → v.job ≡ held
    pub others : seat ≢ owner → v.job ≡ None

  module _ {S : Type 0} (book : S → List X) (job : S → Option J) (good : S → Type 0) where
    -- the value is at home, and nobody has it
    pub record AtHome (first : ℕ) (log : List X) (held : Option J) (s : State (Home S) (View X J)) : Type 0 where
      pub home : Home S
      pub homes : s.homes ≡ M.some home ∷ []
      -- it has had as many turns as were served
      pub turns : home.turns ≡ word_of first
      pub book_is : book home.value ≡ log
      pub job_is : job home.value ≡ held
      pub fits : good home.value
      pub nobody : (j : ℕ) (v : View X J) → get_elem? s.views j ≡ M.some v → has_turn v.stage ≡ false

    -- the value is out, and somebody has it
    pub record IsOut (s : State (Home S) (View X J)) : Type 0 where
      pub homes : s.homes ≡ M.none ∷ []
      pub seat : ℕ
      pub view : View X J
      pub at : get_elem? s.views seat ≡ M.some view
      pub turn : has_turn view.stage ≡ true

    -- the rule
    pub record InOrder (s : State (Home S) (View X J)) : Type 0 where
      -- how many turns were served and how many tickets were drawn, in full
      pub first : ℕ
      pub past : ℕ
      -- the value's book and its job, as they were when it was last at home
      pub log : List X
      pub held : Option J
      -- the seat whose pass has the job
      pub owner : ℕ
      pub there : owner < length s.views
      pub words : s.words ≡ word_of past ∷ word_of first ∷ []
      -- each ticket from the first to the last is drawn, and by one pass
      pub line : past ≡ first + total (λ (v : View X J). queued v.stage) s.views
      pub once : (t : ℕ) → total (λ (v : View X J). queued_at t v.stage) s.views ≤ 1
      -- there are never more than 64 passes, so that two tickets are never the same word
      pub spare : total (λ (v : View X J). v.spare) s.views + length s.views ≤ 64
      pub each : (j : ℕ) (v : View X J) → get_elem? s.views j ≡ M.some v → Knows first past log held owner j v
      -- no place in the book belongs to two passes
      pub apart : (p : ℕ) → total (λ (v : View X J). times p v.own) s.views ≤ 1
      pub slot : AtHome first log held s ⊎ IsOut s
