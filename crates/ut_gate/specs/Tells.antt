-- What a pass knows after each kind of step.
use Rattle.std.specs.Prelude.{◌≡◌, ◌≢◌, ℕ, ◌-◌, ◌≤◌, ◌==◌, ◌⊎◌, ltb, List, [], ◌∷◌, ◌++◌, length, Option, Some, None, if◌then◌else◌}
use mathlib.Core.Option as M
use mathlib.Core.List.{IsPrefix}
use lib.ListN.{get_elem?}
use Rattle.atomic_table.specs.Table.{Me, Step, rest}
use Rattle.ut_gate.specs.declared.view.Home.{Home}
use Rattle.ut_gate.specs.declared.view.Stage.{Stage}
use Rattle.ut_gate.specs.declared.view.Stage.TheVariants.{Away, Waits, Holds, Ends}
use Rattle.ut_gate.specs.declared.view.View.{View}
use Rattle.ut_gate.specs.Counts.{times, word_of}
use Rattle.ut_gate.specs.Turns.{MeetsJob, slip_after}

-- a pass that has had no turn
abbrev pub newcomer : {X J : Type 0} → List X → ℕ → View X J
newcomer seen spare =
    record { stage = Away; seen = seen; told = []; own = []; job = None; spare = spare }

-- the pass at another stage
abbrev pub staged : {X J : Type 0} → View X J → Stage X J → View X J
staged v st =
    record { stage = st; seen = v.seen; told = v.told; own = v.own; job = v.job; spare = v.spare }

-- the pass from which one was split off
abbrev pub cut_left : {X J : Type 0} → View X J → View X J
cut_left v =
    record { stage = v.stage; seen = v.seen; told = v.told; own = v.own; job = v.job; spare = v.spare - 1 }

-- the pass that was split off
abbrev pub cut_right : {X J : Type 0} → View X J → View X J
cut_right v = newcomer v.seen 0

-- the longer of two books
abbrev pub longer : {X : Type 0} → List X → List X → List X
longer xs ys = if ltb (length xs) (length ys) then ys else xs

-- the job of either
abbrev pub either_job : {J : Type 0} → Option J → Option J → Option J
either_job None k = k
either_job (Some j) k = Some j

-- two passes made one: the longer book, the places of both, and the job
abbrev pub joined : {X J : Type 0} → View X J → View X J → View X J
joined v w = record {
  stage = v.stage;
  seen = longer v.seen w.seen;
  told = v.told ++ v.seen ∷ w.seen ∷ [];
  own = v.own ++ w.own;
  job = either_job v.job w.job;
  spare = v.spare;
}

-- the places of a pass's own entries after a turn
abbrev pub own_after : {X : Type 0} → List ℕ → List X → List X → List ℕ
own_after own before after =
    if length after == length before then own else own ++ length before ∷ []

module _ {X J : Type 0} where
  -- the book that was noted when the turn came
  abbrev pub book_of : Stage X J → List X
  book_of (Holds t b k) = b
  book_of _ = []

  -- the job that was noted
  abbrev pub job_of : Stage X J → Option J
  job_of (Holds t b k) = k
  job_of _ = None

  -- the ticket of a turn
  abbrev pub ticket_of : Stage X J → ℕ
  ticket_of (Holds t b k) = t
  ticket_of _ = 0

  module _ {S : Type 0} (book : S → List X) (job : S → Option J) (good : S → Type 0) where
    -- what a pass knows, with the slots that are out with it
    abbrev pub Seated : Type 0
    Seated = Me (Home S) (View X J)

    -- a ticket was drawn
    abbrev pub Draws : Step (Home S) → Seated → ℕ → Seated → Type 0
    Draws st m found m' = (t : ℕ) × (found ≡ word_of t) × (m' ≡ (staged m.0 (Waits t), m.1))

    -- the turn of ticket t came, with the value
    pub record Gets (t : ℕ) (m m' : Seated) : Type 0 where
      pub home : Home S
      pub turns : home.turns ≡ word_of t
      pub fits : good home.value
      pub is : m' ≡ (staged m.0 (Holds t (book home.value) (job home.value)), (0, home) ∷ m.1)
      -- its book begins with all that the pass had seen
      pub seen : IsPrefix m.0.seen (book home.value)
      pub told : (b : List X) → (k : ℕ) → get_elem? m.0.told k ≡ M.some b → IsPrefix b (book home.value)
      -- the pass's job is its job
      pub job_meets : MeetsJob (job home.value) m.0.job
      pub apart : (p : ℕ) → times p m.0.own ≤ 1

    -- the turn came where the word is the ticket's, and otherwise nothing changed
    abbrev pub Looks : Step (Home S) → Seated → ℕ → Seated → Type 0
    Looks st m found m' = (t : ℕ) → m.0.stage ≡ Waits t → ((found ≡ word_of t) × Gets t m m') ⊎ ((found ≢ word_of t) × (m' ≡ m))

    -- the pass after a turn in which the value became y
    abbrev pub view_after : View X J → S → View X J
    view_after v y = record {
      stage = Away;
      seen = book y;
      told = v.told;
      own = own_after v.own (book_of v.stage) (book y);
      job = slip_after (job_of v.stage) (job y) v.job;
      spare = v.spare;
    }

    -- the value went home, and the pass is out of the line
    abbrev pub Leaves : Step (Home S) → Seated → ℕ → Seated → Type 0
    Leaves st m found m' = (y : Home S) → m.1 ≡ (0, y) ∷ [] → m' ≡ (view_after m.0 y.value, rest m.1)

    -- the value went home at the last turn, and the pass stays in the line
    abbrev pub Rests : Step (Home S) → Seated → ℕ → Seated → Type 0
    Rests st m found m' = m' ≡ (staged m.0 (Ends (ticket_of m.0.stage)), rest m.1)
