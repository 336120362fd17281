-- What the turn of a keeper comes to: of the merger, of the act that ends its job, and of the saver.
use Rattle.std.specs.Prelude.{ℕ, ◌≡◌, ◌⊎◌, ◌||◌, Bool, true, false, if◌then◌else◌, List, [], ◌∷◌, ◌++◌, Option, None, Some, IsTrue, IsSome}
use Rattle.ut_outside.specs.Disk.{View}
use Rattle.ut_plain.specs.declared.statement.Statement.{Statement}
use Rattle.ut_plain.specs.declared.statement.Statement.TheVariants.{MergeBegin, MergeEnd}
use Rattle.ut_plain.specs.declared.reply.Reply.{Reply}
use Rattle.ut_plain.specs.Plain.{Plain}
use Rattle.ut_merge.specs.Jobs.{JobValue}
use Rattle.ut_engine.specs.Logged.{Logged}
use Rattle.ut_engine.specs.Runs.{Runs}
use Rattle.ut_crew.specs.declared.role.Kept.{Kept}
use Rattle.ut_crew.specs.declared.role.Kept.TheVariants.{Did, Due, Idle, Over}
use Rattle.ut_crowd.specs.declared.book.Asked.TheVariants.{Store}
use Rattle.ut_crowd.specs.declared.book.Begun.{Begun}
use Rattle.ut_crowd.specs.declared.book.Turn.{Turn}
use Rattle.ut_crowd.specs.Asking.{is_refusal, merge_due, save_due, save_waits}

-- what a keeper's turn came to whose statement was answered so: it is over where that was refused, or the disk failed
abbrev pub kept_after : Reply → Bool → Kept
kept_after reply down = if down || is_refusal reply then Over else Did

-- where the other keeper waited for it, that may go on
abbrev pub woken : Bool → Kept → Kept
woken true Did = Due
woken waited kept = kept

-- the book stays, or gets one turn, of this moment
abbrev pub IsDated : ℕ → List Turn → List Turn → Type 0
IsDated moment before after = (after ≡ before) ⊎ ((t : Turn) × (after ≡ before ++ t ∷ []) × (t.moment ≡ moment))

-- a turn more: the store asked this statement, and was answered
pub record HasAsked (st : Statement) (before after : List Turn) : Type 0 where
  pub turn : Turn
  pub more : after ≡ before ++ turn ∷ []
  pub who : turn.session ≡ Some 0
  pub asked : turn.asked ≡ Store st

-- a statement was asked and taken, and the hall goes on
abbrev pub HasDone : Statement → (stopped down : Bool) → List Turn → List Turn → Type 0
HasDone st stopped down before after =
    (asked : HasAsked st before after) × (is_refusal asked.turn.reply ≡ false) × (stopped ≡ false) × (down ≡ false)

-- A keeper asked a statement. It is over exactly where there was no room for the turn, the disk failed, or the statement was refused.
-- It asks that the other keeper be woken (`Due`) just where that had to wait for it.
abbrev pub AsksOnce : Statement → (waited stopped down : Bool) → List Turn → List Turn → Kept → Type 0
AsksOnce st waited stopped down before after Idle = ⊥
AsksOnce st waited stopped down before after Over =
    IsTrue stopped ⊎ IsTrue down ⊎ ((asked : HasAsked st before after) × IsTrue (is_refusal asked.turn.reply))
AsksOnce st waited stopped down before after Did = (waited ≡ false) × HasDone st stopped down before after
AsksOnce st waited stopped down before after Due = IsTrue waited × HasDone st stopped down before after

-- a merge into main that began brings its job
abbrev pub BringsJob : Option JobValue → Statement → Type 0
BringsJob job (MergeBegin name kind) = IsSome job
BringsJob job st = Unit {0}

-- a keeper asked what was due, and where it goes on it has what that brings
abbrev pub AsksDue : (due : Option Statement → Type 0) → (brings : Statement → Type 0) → (waited stopped down : Bool) → List Turn → List Turn → Kept → Type 0
AsksDue due brings waited stopped down before after kept =
    (st : Statement) × due (Some st) × AsksOnce st waited stopped down before after kept × ((kept ≡ Over → ⊥) → brings st)

-- A keeper's turn by what was due: it is idle exactly where the hall wasn't over and nothing was due, and over exactly where the hall was,
-- so that nothing changes, or what was due found no room, lost the disk, or was refused. Else it has asked what was due, and it asks that the
-- other keeper be woken just where that had to wait for it.
abbrev pub KeepsUp : (over : Type 0) → (due : Option Statement → Type 0) → (brings : Statement → Type 0) → (waited was stopped down : Bool) → List Turn → List Turn → Kept → Type 0
KeepsUp over due brings waited was stopped down before after Idle =
    (over → ⊥) × due None × (after ≡ before) × (stopped ≡ false) × (down ≡ false)
KeepsUp over due brings waited was stopped down before after Over =
    (over × (after ≡ before) × (stopped ≡ was)) ⊎ ((over → ⊥) × AsksDue due brings waited stopped down before after Over)
KeepsUp over due brings waited was stopped down before after Did =
    (over → ⊥) × AsksDue due brings waited stopped down before after Did
KeepsUp over due brings waited was stopped down before after Due =
    (over → ⊥) × AsksDue due brings waited stopped down before after Due

-- no merge into main begins while a savepoint waits
abbrev pub unless_waiting : Bool → Option Statement → Option Statement
unless_waiting true (Some (MergeBegin name kind)) = None
unless_waiting waited due = due

-- what is due to the merger, whatever plain state the store runs from
abbrev pub IsMergeDue : ℕ → Bool → Logged → View → Option Statement → Type 0
IsMergeDue l1 waited store disk due = (p : Plain) → Runs store disk p → unless_waiting waited (merge_due l1 p) ≡ due

-- what is due to the saver
abbrev pub IsSaveDue : Begun → Logged → View → Option Statement → Type 0
IsSaveDue last store disk due = (p : Plain) → Runs store disk p → save_due last p ≡ due

-- whether a savepoint waits is noted
abbrev pub IsWaiting : Begun → Logged → View → Bool → Type 0
IsWaiting last store disk waited = (p : Plain) → Runs store disk p → waited ≡ save_waits last p

-- the job of a merge that began could be shared; or there was no memory for that, and the keeper is over and the crowd stopped
abbrev pub IsShared : Kept → Bool → Kept → Bool → Type 0
IsShared kept stopped kept_now stopped_now = ((kept_now ≡ kept) × (stopped_now ≡ stopped)) ⊎ ((kept_now ≡ Over) × IsTrue stopped_now)

-- The turn that ends a job: over exactly where there was no room or the disk failed; else the merge ended, and the job is gone.
abbrev pub EndsJob : (stopped down : Bool) → List Turn → List Turn → Option JobValue → Kept → Type 0
EndsJob stopped down before after job Idle = ⊥
EndsJob stopped down before after job Over = IsTrue stopped ⊎ IsTrue down
EndsJob stopped down before after job Did = ⊥
EndsJob stopped down before after job Due =
    (asked : HasAsked MergeEnd before after) × (is_refusal asked.turn.reply ≡ false) × (job ≡ None) × (stopped ≡ false) × (down ≡ false)

-- what it came to, by whether the disk failed
abbrev pub ended : Bool → Kept
ended true = Over
ended false = Due
