-- What a change of rows needs, and what it does to the store.
use Rattle.std.specs.Prelude.{ℕ, ◌+◌, ◌≤◌, ◌<◌, ◌≡◌, ◌≢◌, Bool, true, ◌&&◌, ◌||◌, nat_eq, nat_le, nat_lt, is_some, IsTrue, List, [], ◌∷◌, ◌++◌, length, Option, None, Some, slice_get, slice_set}
use Rattle.std.specs.Option.{option_map}
use Rattle.std.specs.List.{list_all}
use Rattle.ut_value.specs.declared.value.Value.{Value}
use Rattle.ut_value.specs.declared.entry.Op.{Op}
use Rattle.ut_value.specs.declared.entry.Entry.TheVariants.{Txn}
use Rattle.ut_value.specs.Spelling.{spelling, is_op, ops_len}
use Rattle.ut_plain.specs.declared.table.Table.{Table}
use Rattle.ut_plain.specs.declared.statement.Statement.{Statement}
use Rattle.ut_plain.specs.declared.statement.Statement.TheVariants as statements
use Rattle.ut_plain.specs.declared.statement.Pred.{Pred}
use Rattle.ut_plain.specs.declared.reply.Refusal.{Refusal}
use Rattle.ut_plain.specs.declared.reply.Refusal.TheVariants as refusals
use Rattle.ut_plain.specs.Condition.{meets}
use Rattle.ut_plain.specs.Rows.{inserts_of}
use Rattle.ut_plain.specs.Refusals.{unless, or_else, conflict}
use Rattle.ut_plain.specs.Limits.{has_room, has_ops_room}
use Rattle.ut_plain.specs.Made.{made, changes}
use Rattle.ut_plain.specs.Plain.{Plain}
use Rattle.ut_plain.specs.View.{View, view}
use Rattle.ut_plain.specs.Spelled.{is_spelled}
use Rattle.ut_plain.specs.Step.{effect_of, changed, is_bulk}
use Rattle.ut_stamps.specs.declared.fates.Fate.TheVariants.{Running}
use Rattle.ut_stamps.specs.declared.place.Place.{Place}
use Rattle.ut_exact.specs.Work.{Fits}
use Rattle.ut_exact.specs.Places.{dead_number}
use Rattle.ut_staged.specs.Staged.{Staged}
use Rattle.ut_tables.specs.Rows.{HasTable}
use Rattle.ut_tables.specs.Changed.{Changed, Committed}
use Rattle.ut_tables.specs.Finds.{CanScan}
use Rattle.ut_key.specs.declared.comparison.ColumnPred.{ColumnPred}
use Rattle.ut_names.specs.declared.resolved.Selection.{Selection}
use Rattle.ut_names.specs.declared.resolved.Target.{Target}
use Rattle.ut_names.specs.Resolved.{IsSelection, IsTarget}
use Rattle.ut_txn.specs.declared.opened.Opened.{Opened}
use Rattle.ut_txn.specs.Seats.{opened_at, payload_at, SeatSet, SeatsStay}
use Rattle.ut_change.specs.Writes.{op_fits, ends_of, AreThere, CanWrite}
use Rattle.ut_store.specs.Held.{Held}
use Rattle.ut_store.specs.Stands.{StandsFor}
use Rattle.ut_store.specs.Standing.{Stands, changes_rows}
use Rattle.ut_store.specs.Early.{early_refusal}
use Rattle.ut_store.specs.Reads.{looks_at, own_at}
use Rattle.ut_store.specs.Hits.{Hits, first_taken_of}
use Rattle.ut_staged.specs.Staging.{Staging}

-- ---- limits and conflicts

-- whether there are ids for so many new rows
abbrev pub has_ids_for : Held → ℕ → Bool
has_ids_for e rows = nat_eq rows 0 || nat_le (e.counts.next_id + rows) (e.counts.rows_limit + 1)

-- whether the session's own operations and these have a spelling
abbrev pub has_bytes_for : Held → ℕ → List Op → Bool
has_bytes_for e session os = nat_le (length (payload_at e.seats session) + ops_len os) 1073741824

-- whether operations of a session keep to the limits
abbrev pub has_room_for : Held → ℕ → List Op → Bool
has_room_for e session [] = true
has_room_for e session (op ∷ os) =
    has_ids_for e (inserts_of (op ∷ os))
    && has_bytes_for e session (op ∷ os)
    && (is_some (opened_at e.seats session) || nat_lt e.counts.entries 1073741823)

-- the refusal behind the early ones: of limits, else of a conflict
abbrev pub late_refusal : Held → ℕ → ℕ → List (ℕ × Place) → List Op → Option Refusal
late_refusal e session n hits os =
    or_else (unless (has_room_for e session os) refusals.Full) (option_map refusals.Conflict (first_taken_of e session n hits))

-- ---- what is done

-- The table has these places, with a row in each.
abbrev pub HasPlaces : Held → ℕ → List (ℕ × Place) → Type 0
HasPlaces e n hits = HasTable e.rows n (λ s. AreThere s hits)

-- Nothing but memory stands in the way of these operations.
pub record CanDo (e : Held) (n : ℕ) (hits : List (ℕ × Place)) (os : List Op) : Type 0 where
  pub table : Staged
  pub at : slice_get e.rows.staged n ≡ Some table
  pub write : CanWrite table hits os
  pub rule : IsTrue (list_all is_op os)
  pub short : ops_len os + 5 ≤ 1073741824
  pub ids : e.counts.next_id + inserts_of os ≤ 2147483649

-- The journal has room for one entry more.
pub record CanAppend (e : Held) : Type 0 where
  pub entries : e.counts.entries < 1073741823
  pub commits : e.counts.commits ≤ e.counts.entries

-- Operations were done in the session's transaction, after which the table's stages are these.
pub record DoneInside (old new : Held) (session : ℕ) (o : Opened) (n : ℕ) (os : List Op) (after : ℕ → Staged → Staged) : Type 0 where
  pub rows : Changed old.rows n (after o.number) new.rows
  pub bytes : (ps : List Op) → payload_at old.seats session ≡ spelling (Txn ps) → payload_at new.seats session ≡ spelling (Txn (ps ++ os))
  pub seats : SeatSet old.seats new.seats session (Some o) (payload_at new.seats session)
  pub counts : new.counts ≡ record old.counts { next_id = old.counts.next_id + inserts_of os }

-- The same as a transaction by themselves, which is committed.
pub record DoneAlone (old new : Held) (n : ℕ) (os : List Op) (after : ℕ → Staged → Staged) : Type 0 where
  pub rows : Committed old.rows n after (old.counts.entries + 1) new.rows
  pub seats : SeatsStay old.seats new.seats
  pub counts : new.counts ≡ record old.counts {
    next_id = old.counts.next_id + inserts_of os;
    commits = old.counts.commits + 1;
    entries = old.counts.entries + 1;
  }
  pub frame : new.frame ≡ spelling (Txn os)

-- The store stands for what it stood for.
pub record Stays (old new : Held) : Type 0 where
  pub each : (p : Plain) → StandsFor old p → StandsFor new p

-- ---- what is looked for

-- The session can look for rows of the table at a place, by comparisons of its columns.
abbrev pub CanLook : Held → ℕ → ℕ → List ColumnPred → Type 0
CanLook e session n preds = HasTable e.rows n (CanScan e.rows.fates (looks_at e session) (own_at e session) preds)

-- The rows of the table at a place that the session sees and that meet each comparison.
pub record Looked (e : Held) (session n : ℕ) (preds : List Pred) (hits : List (ℕ × Place)) : Type 0 where
  pub table : Staged
  pub at : slice_get e.rows.staged n ≡ Some table
  pub hits_are : Hits e session n (meets table.columns preds) hits

-- ---- statements

-- A session's statement that changes rows, which no early refusal keeps back.
pub record MayChange (e : Held) (session : ℕ) (st : Statement) : Type 0 where
  pub seat : session < 17
  pub inside : 0 < session
  pub spelled : IsTrue (is_spelled st)
  pub stands : Stands e
  pub early : early_refusal e session st ≡ None
  pub kind : IsTrue (changes_rows st)

-- The statement deletes the rows of this selection.
pub record IsDelete (tables : List Table) (st : Statement) (rows : Selection) : Type 0 where
  pub name : List ℕ
  pub preds : List Pred
  pub is : st ≡ statements.Delete name preds
  pub rows_are : IsSelection tables name preds rows

-- The statement gives the rows of this selection this value in a column.
pub record IsUpdate (tables : List Table) (st : Statement) (target : Target) (value : Value) : Type 0 where
  pub name : List ℕ
  pub column : List ℕ
  pub preds : List Pred
  pub is : st ≡ statements.Update name column value preds
  pub target_is : IsTarget tables name column value preds target

-- Operations that suit the table at a place, where the rows that they end stand in these places.
pub record AreReady (e : Held) (n : ℕ) (hits : List (ℕ × Place)) (os : List Op) : Type 0 where
  pub table : Staged
  pub at : slice_get e.rows.staged n ≡ Some table
  pub there : AreThere table hits
  pub enough : ends_of os ≤ length hits
  pub fits : IsTrue (list_all (op_fits table.columns) os)
  pub rule : IsTrue (list_all is_op os)

-- A statement makes these operations, which change so many rows, and ends the rows in these places;
-- after them the table's stages are these.
pub record IsWork
    (e : Held) (session : ℕ) (st : Statement) (n : ℕ) (hits : List (ℕ × Place)) (os : List Op) (rows : ℕ)
    (after : ℕ → Staged → Staged) : Type 0 where
  pub changes_rows : (p : Plain) → effect_of p session st ≡ changed p session st
  pub operations : (p : Plain) → StandsFor e p → made (view p session).tables (view p session).rows (view p session).next_id st ≡ os
  pub count : (p : Plain) → StandsFor e p → changes (view p session).tables (view p session).rows st ≡ rows
  -- rows are changed just where something is done
  pub none : os ≡ [] → rows ≡ 0
  pub some : (op : Op) (rest : List Op) → os ≡ op ∷ rest → 0 < rows
  pub limits : (v : View) → has_room v st ≡ has_ops_room v (made v.tables v.rows v.next_id st)
  pub clash : (p : Plain) → StandsFor e p → conflict (view p session) st ≡ first_taken_of e session n hits
  pub fits_inside : (o : Opened) (p : Plain) (s : StandsFor e p)
      → first_taken_of e session n hits ≡ None → opened_at e.seats session ≡ Some o
      → Fits e.rows.fates o.snapshot o.number e.counts.next_id s.rows.held os
  pub fits_alone : (p : Plain) (s : StandsFor e p)
      → first_taken_of e session n hits ≡ None → opened_at e.seats session ≡ None
      → Fits (e.rows.fates ++ Running ∷ []) e.counts.entries (length e.rows.fates) e.counts.next_id s.rows.held os
  pub staging : (t : ℕ) (s : Staged) → slice_get e.rows.staged n ≡ Some s → t ≢ dead_number
      → Staging e.rows.staged (slice_set e.rows.staged n (after t s)) t (is_bulk st) e.counts.next_id os
