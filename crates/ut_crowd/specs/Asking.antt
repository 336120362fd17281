-- What the store asks of its own accord, by its plain state and the turns before: merges, and the pieces of savepoints.
use Rattle.std.specs.Prelude.{ℕ, ◌≡◌, ◌+◌, ◌%◌, Bool, true, false, nat_eq, nat_le, if◌then◌else◌, List, [], ◌∷◌, length, Option, None, Some, is_some, IsTrue}
use Rattle.std.specs.List.{position}
use Rattle.std.specs.Option.{unwrap_or}
use Rattle.ut_value.specs.declared.entry.MergeKind.{MergeKind}
use Rattle.ut_value.specs.declared.entry.MergeKind.TheVariants.{Classic, Resort, Partial}
use Rattle.ut_plain.specs.declared.stage.Progress.{Progress}
use Rattle.ut_plain.specs.declared.stage.Progress.TheVariants as steps
use Rattle.ut_plain.specs.declared.stage.TableStages.{TableStages}
use Rattle.ut_plain.specs.declared.statement.Statement.{Statement}
use Rattle.ut_plain.specs.declared.statement.Statement.TheVariants.{MergeL1, MergeBegin, MergeEnd, SaveBegin}
use Rattle.ut_plain.specs.declared.reply.Reply.{Reply}
use Rattle.ut_plain.specs.declared.reply.Reply.TheVariants as replies
use Rattle.ut_plain.specs.Journal.{journal_len, current}
use Rattle.ut_plain.specs.Plain.{Plain, Phase, Idle, Writing, Sealed}
use Rattle.ut_plain.specs.Stages.{Stages}
use Rattle.ut_plain.specs.Transcript.{AnswersLine}
use Rattle.ut_engine.specs.Tables.{name_at}
use Rattle.ut_crowd.specs.declared.book.Asked.{Asked}
use Rattle.ut_crowd.specs.declared.book.Asked.TheVariants.{Line, Store}
use Rattle.ut_crowd.specs.declared.book.Begun.{Begun}
use Rattle.ut_crowd.specs.declared.book.Turn.{Turn}
use Rattle.ut_crowd.specs.Book.{said, answer_of}
use Rattle.ut_crowd.specs.Saving.{due_piece}

-- ---- merges

-- The kind of the merge of this number: each fourth builds main anew, two behind it re-sorts it, the others build its last part anew.
abbrev pub kind_of_merge : ℕ → MergeKind
kind_of_merge n = if nat_eq (n % 4) 0 then Classic else if nat_eq (n % 4) 2 then Resort else Partial

-- the place of the first table with so many rows in its first stage
abbrev pub first_full : ℕ → Stages → Option ℕ
first_full rows stages = position (λ (t : TableStages). nat_le rows (length t.l1)) stages

-- and in its second
abbrev pub second_full : ℕ → Stages → Option ℕ
second_full rows stages = position (λ (t : TableStages). nat_le rows (length t.l2)) stages

-- the name of the table at a place
abbrev pub table_at : Plain → ℕ → List ℕ
table_at p place = unwrap_or (name_at (current p.journal).tables place) []

-- the rows of a first stage go to the second, or else those of a second stage go into main
abbrev pub merge_of : ℕ → Plain → Option ℕ → Option ℕ → Option Statement
merge_of l1 p (Some place) second = Some (MergeL1 (table_at p place) l1)
merge_of l1 p None (Some place) = Some (MergeBegin (table_at p place) (kind_of_merge ((current p.journal).merges + 1)))
merge_of l1 p None None = None

-- The merge that is due: of the first table that has so many rows in its first stage, or else in its second. None is while one is pending.
abbrev pub merge_due : ℕ → Plain → Option Statement
merge_due l1 p = if is_some p.pending then None else merge_of l1 p (first_full l1 p.stages) (second_full l1 p.stages)

-- ---- savepoints

-- how far the savepoint of a phase is
abbrev pub progress_in : Phase → Progress
progress_in Idle = steps.Idle
progress_in (Writing captured done pages image) = steps.Writing done pages
progress_in (Sealed captured pages image) = steps.Sealed pages

-- the piece that comes next, where enough entries came since the last savepoint began
abbrev pub piece_next : Begun → Plain → Option Statement
piece_next last p = due_piece (progress_in p.phase) (journal_len p.journal) last.entries last.pages

-- the begin of a savepoint waits while a merge is pending
abbrev pub waits : Bool → Option Statement → Bool
waits true (Some SaveBegin) = true
waits pending piece = false

-- whether a savepoint waits for the end of the pending merge
abbrev pub save_waits : Begun → Plain → Bool
save_waits last p = waits (is_some p.pending) (piece_next last p)

-- the piece that is due
abbrev pub save_due : Begun → Plain → Option Statement
save_due last p = if save_waits last p then None else piece_next last p

-- ---- all of it

-- What the store may ask: the merge that is due, the end of one that is pending, or the piece of a savepoint that is due.
pub data StoreAsks (l1 : ℕ) (last : Begun) (p : Plain) (st : Statement) : Type 0 where
  Merges : merge_due l1 p ≡ Some st → StoreAsks l1 last p st
  Ends : IsTrue (is_some p.pending) → st ≡ MergeEnd → StoreAsks l1 last p st
  Saves : save_due last p ≡ Some st → StoreAsks l1 last p st

-- whether a reply refuses
abbrev pub is_refusal : Reply → Bool
is_refusal (replies.Refused why) = true
is_refusal _ = false

-- The end of a merge isn't refused: it takes no memory, and the merge that it ends is pending.
abbrev pub IsTaken : Asked → Reply → Type 0
IsTaken (Store MergeEnd) reply = is_refusal reply ≡ false
IsTaken asked reply = Unit {0}

-- what is asked by no line is what the store may ask
abbrev pub IsAsked : ℕ → Begun → Plain → Asked → Type 0
IsAsked l1 last p (Line bytes) = Unit {0}
IsAsked l1 last p (Store st) = StoreAsks l1 last p st

-- the last savepoint that began, behind a turn in which that was asked and answered, with this length of the journal
abbrev pub begun_by : Begun → Asked → Reply → ℕ → Begun
begun_by last (Store SaveBegin) (replies.Saving done pages) journal = record { entries = journal; pages = pages }
begun_by last asked reply journal = last

-- before the first savepoint of a run the entries count from its opening
abbrev pub begun_first : Plain → Begun
begun_first p = record { entries = journal_len p.journal; pages = 0 }

-- the last one behind these turns
abbrev pub begun_in : Begun → List Turn → Begun
begun_in last [] = last
begun_in last (t ∷ book) = begun_in (begun_by last t.asked t.reply t.journal) book

-- Each statement of the store in a book is one that it may ask, in the state to which the turns before it come, and each end of a merge
-- is taken.
abbrev pub Asks : ℕ → Begun → Plain → List Turn → Type 0
Asks l1 last p [] = Unit {0}
Asks l1 last p (t ∷ book) =
    IsAsked l1 last p t.asked
    × IsTaken t.asked t.reply
    × ((q : Plain) → AnswersLine p (said t.asked) (answer_of t ∷ []) q → Asks l1 (begun_by last t.asked t.reply t.journal) q book)

-- the same of a book from its opening
abbrev pub AsksFrom : ℕ → Plain → List Turn → Type 0
AsksFrom l1 p book = Asks l1 (begun_first p) p book
