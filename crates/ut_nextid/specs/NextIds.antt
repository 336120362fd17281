-- The next id of a journal, and those that open transactions come to, beside a plain store.
use Rattle.std.specs.Prelude.{ℕ, ◌≡◌, ◌<◌, ◌+◌, max, min, nat_lt, if◌then◌else◌, List, [], ◌∷◌, replicate, length, slice_get, slice_set, None, Some, IsTrue}
use Rattle.std.specs.Option.{unwrap_or}
use Rattle.ut_value.specs.declared.entry.Op.{Op}
use Rattle.ut_value.specs.declared.entry.Op.TheVariants as ops
use Rattle.ut_value.specs.declared.entry.Entry.{Entry}
use Rattle.ut_value.specs.declared.entry.Entry.TheVariants as entries
use Rattle.ut_plain.specs.declared.statement.Statement.{Statement}
use Rattle.ut_plain.specs.declared.statement.Statement.TheVariants.{Commit, Abort}
use Rattle.ut_plain.specs.declared.reply.Reply.{Reply}
use Rattle.ut_plain.specs.declared.reply.Reply.TheVariants.{Done, Committed, Changed}
use Rattle.ut_plain.specs.Rows.{next_after}
use Rattle.ut_plain.specs.Journal.{current}
use Rattle.ut_plain.specs.Plain.{Plain, open_at}
use Rattle.ut_plain.specs.View.{own_ops}
use Rattle.ut_plain.specs.Reached.{IsPlain}
use Rattle.ut_plain.specs.Spelled.{is_spelled}
use Rattle.ut_plain.specs.Step.{step}
use Rattle.ut_nextid.specs.declared.next_ids.Ending.{Ending}
use Rattle.ut_nextid.specs.declared.next_ids.Ending.TheVariants as endings

-- the next id of the journal, and what the open transactions inserted
pub record Noted : Type 0 where
  -- one above the greatest id that the journal's entries inserted
  pub next : ℕ
  -- by session: one above the greatest id that its open transaction inserted, 0 where it inserted none
  pub own : List ℕ

-- what is noted of a session, 0 where nothing is
abbrev pub own_at : List ℕ → ℕ → ℕ
own_at own session = unwrap_or (slice_get own session) 0

-- What is noted is the plain store's.
pub record Keeps (n : Noted) (p : Plain) : Type 0 where
  pub seats : length n.own ≡ 17
  pub next : n.next ≡ (current p.journal).next
  pub own : (session : ℕ) → session < 17 → own_at n.own session ≡ next_after 0 (own_ops (open_at p.sessions session))

-- nobody has a transaction
abbrev pub nobody : ℕ → Noted
nobody next = record { next = next; own = replicate 17 0 }

-- ---- behind entries, in 32 bits

-- the next id behind an operation
abbrev pub op_next : ℕ → Op → ℕ
op_next next (ops.Insert table id values) = max next (min (id + 1) 4294967295)
op_next next (ops.Delete table id) = next

-- the next id behind operations, in order
abbrev pub ops_next : ℕ → List Op → ℕ
ops_next next [] = next
ops_next next (op ∷ ops) = ops_next (op_next next op) ops

-- the next id behind an entry
abbrev pub entry_next : ℕ → Entry → ℕ
entry_next next (entries.Txn ops) = ops_next next ops
entry_next next entry = next

-- the next id behind entries, in order
abbrev pub entries_next : ℕ → List Entry → ℕ
entries_next next [] = next
entries_next next (e ∷ es) = entries_next (entry_next next e) es

-- ---- what a statement changes, by its reply and the next id of the store before and after

-- the transaction of a session is over
abbrev pub over : Noted → ℕ → Noted
over n session = record n { own = slice_set n.own session 0 }

-- of a commit: what the transaction inserted is the journal's now
abbrev pub with_commit : Noted → ℕ → Reply → Noted
with_commit n session (Committed c) = record { next = max n.next (own_at n.own session); own = slice_set n.own session 0 }
with_commit n session Done = over n session
with_commit n session reply = n

-- of an abort: what the transaction inserted is nobody's
abbrev pub with_abort : Noted → ℕ → Reply → Noted
with_abort n session Done = over n session
with_abort n session reply = n

-- of inserted rows: they are the journal's at once, or the transaction's where the session has one
abbrev pub with_rows : Noted → ℕ → Reply → ℕ → Noted
with_rows n session (Changed rows (Some c)) after = record n { next = after }
with_rows n session (Changed rows None) after = record n { own = slice_set n.own session after }
with_rows n session reply after = n

-- how a statement ends its session's transaction
abbrev pub ending_of : Statement → Ending
ending_of Commit = endings.Commit
ending_of Abort = endings.Abort
ending_of st = endings.Neither

-- what is noted behind a statement that ends its session's transaction so
abbrev pub noted_as : Noted → ℕ → Ending → Reply → (before after : ℕ) → Noted
noted_as n session endings.Commit reply before after = with_commit n session reply
noted_as n session endings.Abort reply before after = with_abort n session reply
noted_as n session endings.Neither reply before after = if nat_lt before after then with_rows n session reply after else n

-- what is noted behind a statement
abbrev pub noted : Noted → ℕ → Statement → Reply → (before after : ℕ) → Noted
noted n session st reply before after = noted_as n session (ending_of st) reply before after

-- With each statement that a line can spell it stays the plain store's.
abbrev pub NoteKeeps : Type 0
NoteKeeps = (n : Noted) (p : Plain) (session : ℕ) (st : Statement) → session < 17 → IsPlain p → IsTrue (is_spelled st) → Keeps n p
    → Keeps (noted n session st (step p session st).reply p.next_id (step p session st).plain.next_id) (step p session st).plain
