-- Whom a turn asks to be woken.
use Rattle.std.specs.Prelude.{ℕ, ◌≡◌, Bool, true, false, ◌&&◌, ◌||◌, not, Option, Some, is_some}
use Rattle.ut_outside.specs.Disk.{View}
use Rattle.ut_plain.specs.declared.statement.Statement.{Statement}
use Rattle.ut_plain.specs.declared.statement.Statement.TheVariants.{SaveBegin}
use Rattle.ut_plain.specs.Plain.{Plain}
use Rattle.ut_engine.specs.Logged.{Logged}
use Rattle.ut_engine.specs.Runs.{Runs}
use Rattle.ut_crew.specs.declared.role.Went.{Went}
use Rattle.ut_crew.specs.declared.role.Went.TheVariants.{On, Due, Over}
use Rattle.ut_crowd.specs.declared.book.Begun.{Begun}
use Rattle.ut_crowd.specs.Asking.{merge_due, piece_next, save_waits}
use Rattle.ut_crowd.specs.Keepers.{unless_waiting}

-- whether a merger that sleeps would do something at its turn: a merge is due, and no savepoint that waits keeps it back
abbrev pub calls_merger : ℕ → Bool → Plain → Bool
calls_merger l1 waited p = is_some (unless_waiting waited (merge_due l1 p))

-- whether a piece is the begin of a savepoint
abbrev pub is_begin : Option Statement → Bool
is_begin (Some SaveBegin) = true
is_begin piece = false

-- whether a saver that sleeps would: a savepoint is to begin, unless it waits and that is noted; while one is written none sleeps
abbrev pub calls_saver : Begun → Bool → Plain → Bool
calls_saver last waited p = is_begin (piece_next last p) && not (waited && save_waits last p)

-- whether one of them would, whatever plain state the store runs from
abbrev pub Calls : (l1 : ℕ) (last : Begun) (waited : Bool) → Logged → View → Bool → Type 0
Calls l1 last waited store disk called =
    (p : Plain) → Runs store disk p → (calls_saver last waited p || calls_merger l1 waited p) ≡ called

-- what a session's turn comes to, where there may be more of them, and where a keeper that sleeps would do something
abbrev pub went_of : (more due : Bool) → Went
went_of false due = Over
went_of true true = Due
went_of true false = On

-- A session's turn that isn't its last asks that a keeper be woken (`Due`) just where the store is up and one that sleeps would do something
-- at its turn then.
abbrev pub Wakes : (l1 : ℕ) (last : Begun) (waited : Bool) → Logged → View → Went → Type 0
Wakes l1 last waited store disk On = Calls l1 last waited store disk false
Wakes l1 last waited store disk Due = (store.down ≡ false) × Calls l1 last waited store disk true
Wakes l1 last waited store disk Over = Unit {0}
