-- What the tasks come to that make a table, move rows, count them, and ask.
use Rattle.std.proofs.Common.{ℕ, ◌<◌, ◌≤◌, ◌≡◌, ◌⊎◌, Bool, true, false, List, length, Option, None, Some, is_some, refl, sym, ap, ◌∙◌, subst, min, IsTrue, slice_get, Result, Ok, Err, OnOk, OnErr, IfOk}
use Rattle.ut_value.specs.declared.entry.Entry.TheVariants as entries
use Rattle.ut_value.specs.Spelling.{has_spelling}
use Rattle.ut_plain.specs.declared.table.Table.{Table}
use Rattle.ut_plain.specs.declared.statement.Statement.{Statement}
use Rattle.ut_plain.specs.declared.statement.Statement.TheVariants as statements
use Rattle.ut_plain.specs.declared.stage.PendingMerge.{PendingMerge}
use Rattle.ut_plain.specs.declared.reply.Reply.{Reply}
use Rattle.ut_plain.specs.declared.reply.Reply.TheVariants as replies
use Rattle.ut_plain.specs.declared.reply.Refusal.TheVariants as refusals
use Rattle.ut_plain.specs.declared.reply.Shape.{Shape}
use Rattle.ut_plain.specs.declared.reply.Why.TheVariants as whys
use Rattle.ut_plain.specs.Kinds.{kinds_fit}
use Rattle.ut_plain.specs.Names.{names_known}
use Rattle.ut_plain.specs.Spelled.{is_spelled}
use Rattle.ut_plain.specs.Stages.{shape_of}
use Rattle.ut_staged.specs.Staged.{Staged, merged_l1, stages_of}
use Rattle.ut_names.specs.declared.bound.Task.TheVariants as tasks
use Rattle.ut_names.specs.declared.resolved.Question.{Question}
use Rattle.ut_names.specs.Resolved.{Resolves}
use Rattle.ut_names.proofs.TaskLemmas.{OfAsk, of_create, of_ask, of_merge_l1, of_shape}
use Rattle.ut_query.specs.Tells.{IsAsked, Tells}
use Rattle.ut_tables.specs.Changed.{Changed}
use Rattle.ut_tables.specs.Rows.{Rows}
use Rattle.ut_txn.specs.Seats.{opened_at}
use Rattle.ut_store.specs.declared.outcome.Outcome.TheVariants as outcomes
use Rattle.ut_store.specs.declared.response.Response.TheVariants.{Answered, Append}
use Rattle.ut_store.specs.Held.{Held}
use Rattle.ut_store.specs.Standing.{Stands}
use Rattle.ut_store.specs.Early.{early_refusal, state_refusal}
use Rattle.ut_store.specs.Answers.{Answers, Same}
use Rattle.ut_store.specs.Created.{Created}
use Rattle.ut_store.specs.Executing.{Executes, ExecutesFor, IsAskedBy, MayExecute}
use Rattle.ut_store.specs.Outcomes.{moved_outcome, shape_outcome}
use Rattle.ut_store.specs.Reads.{sight_of}
use Rattle.ut_staged.proofs.ListLemmas.{get-there}
use Rattle.ut_store.proofs.NamedLemmas.{staged_count}
use Rattle.ut_store.proofs.StandsLemmas.{no_memory, itself_same}
use Rattle.ut_store.proofs.CreateLemmas.{few_columns, create_spelling, create_full, created_now}
use Rattle.ut_store.proofs.PlaceTurnLemmas.{moved_now, unmoved_now, shape_now}
use Rattle.ut_store.proofs.AskLemmas.{told_now}
use Rattle.ut_store.proofs.AskedTurnLemmas.{early_by, state_why_refused}

-- the stages of a table that is there
pub table_there : (e : Held) (n : ℕ) → Stands e → n < length e.rows.tables → (s : Staged) × (slice_get e.rows.staged n ≡ Some s)
table_there e n stands small = get-there e.rows.staged n (subst (λ (k : ℕ). n < k) (sym (staged_count e stands)) small)

pub place_there : (e : Held) (n : ℕ) → Stands e → n < length e.rows.tables → n < length e.rows.staged
place_there e n stands small = subst (λ (k : ℕ). n < k) (sym (staged_count e stands)) small

module _ (e : Held) where
  -- ---- rows are moved

  calm_l1 : (inside : Bool) (pending : Option PendingMerge) (name : List ℕ) (n : ℕ) → state_refusal inside pending (statements.MergeL1 name n) ≡ None
  calm_l1 true None name n = refl
  calm_l1 true (Some m) name n = refl
  calm_l1 false None name n = refl
  calm_l1 false (Some m) name n = refl

  pub moved_for : (rows : Rows) (place n moved : ℕ) (s : Staged) → slice_get e.rows.staged place ≡ Some s → moved ≡ min n (length s.l1) → Changed e.rows place (merged_l1 n) rows
      → ExecutesFor e (tasks.MergeL1 place n) (outcomes.Moved moved) (record e { rows = rows })
  moved_for rows place n moved s here count changed session small = record {
    each = λ st a.
        let o = of_merge_l1 e.rows.tables place n st a.binds.is in
        subst (λ (x : Statement). Answers e session x (Answered (replies.Moved moved)) (record e { rows = rows })) (sym o.is)
        (moved_now e rows place n moved s session o.name small (subst (λ (x : Statement). IsTrue (is_spelled x)) o.is a.spelled)
        (early_by e session (tasks.MergeL1 place n) st (statements.MergeL1 o.name n) a o.is ∙ calm_l1 (is_some (opened_at e.seats session)) e.counts.pending o.name n) o.place here count changed);
    job = λ job h. cc;
  }

  pub unmoved_for : (rows : Rows) (place n : ℕ) → rows ≡ e.rows → ExecutesFor e (tasks.MergeL1 place n) (outcomes.Refused refusals.Memory) (record e { rows = rows })
  unmoved_for rows place n kept session small = record {
    each = λ st a.
        let o = of_merge_l1 e.rows.tables place n st a.binds.is in
        subst (λ (x : Statement). Answers e session x (Answered (replies.Refused refusals.Memory)) (record e { rows = rows })) (sym o.is) (unmoved_now e rows n session o.name kept);
    job = λ job h. cc;
  }

  pub moved_as : {E : Type 0} (place n : ℕ) (rows : Rows) (s : Staged) → slice_get e.rows.staged place ≡ Some s → (r : Result ℕ E) → OnOk r (Changed e.rows place (merged_l1 n) rows)
      → IfOk r (λ moved. (x : Staged) → slice_get e.rows.staged place ≡ Some x → moved ≡ min n (length x.l1)) → OnErr r (rows ≡ e.rows) → ExecutesFor e (tasks.MergeL1 place n) (moved_outcome r) (record e { rows = rows })
  moved_as place n rows s here (Ok moved) ok count err = moved_for rows place n moved s here (count s here) ok
  moved_as place n rows s here (Err x) ok count err = unmoved_for rows place n err

  -- ---- rows are counted

  calm_shape : (inside : Bool) (pending : Option PendingMerge) (name : List ℕ) → state_refusal inside pending (statements.Shape name) ≡ None
  calm_shape true None name = refl
  calm_shape true (Some m) name = refl
  calm_shape false None name = refl
  calm_shape false (Some m) name = refl

  pub shape_for : (place : ℕ) (shape : Shape) (s : Staged) → slice_get e.rows.staged place ≡ Some s → shape ≡ shape_of (stages_of s) → ExecutesFor e (tasks.Shape place) (outcomes.Shape shape) e
  shape_for place shape s here told session small = record {
    each = λ st a.
        let o = of_shape e.rows.tables place st a.binds.is in
        subst (λ (x : Statement). Answers e session x (Answered (replies.Shape shape)) e) (sym o.is)
        (shape_now e place shape s session o.name small (subst (λ (x : Statement). IsTrue (is_spelled x)) o.is a.spelled)
        (early_by e session (tasks.Shape place) st (statements.Shape o.name) a o.is ∙ calm_shape (is_some (opened_at e.seats session)) e.counts.pending o.name) o.place here told);
    job = λ job h. cc;
  }

  pub shape_lacks : (place : ℕ) → ExecutesFor e (tasks.Shape place) (outcomes.Refused refusals.Memory) e
  shape_lacks place session small = record {
    each = λ st a.
        let o = of_shape e.rows.tables place st a.binds.is in
        subst (λ (x : Statement). Answers e session x (Answered (replies.Refused refusals.Memory)) e) (sym o.is) (no_memory e e session (statements.Shape o.name) refl (itself_same e));
    job = λ job h. cc;
  }

  pub shape_as : {E : Type 0} (place : ℕ) (s : Staged) → slice_get e.rows.staged place ≡ Some s → (r : Result Shape E) → IfOk r (λ shape. (x : Staged) → slice_get e.rows.staged place ≡ Some x → shape ≡ shape_of (stages_of x))
      → ExecutesFor e (tasks.Shape place) (shape_outcome r) e
  shape_as place s here (Ok shape) told = shape_for place shape s here (told s here)
  shape_as place s here (Err x) told = shape_lacks place

  -- ---- a table is made

  module _ (session : ℕ) (table : Table) where
    abbrev that : Statement
    that = statements.Create table.name table.columns

    creates : (st : Statement) → IsAskedBy e.rows.tables session (tasks.Create table) st → st ≡ statements.Create table.name table.columns
    creates st a = (of_create e.rows.tables table st a.binds.is).is

    calm_create : (pending : Option PendingMerge) → state_refusal false pending (statements.Create table.name table.columns) ≡ None
    calm_create None = refl
    calm_create (Some m) = refl

    calm : (st : Statement) → IsAskedBy e.rows.tables session (tasks.Create table) st → is_some (opened_at e.seats session) ≡ false → early_refusal e session (statements.Create table.name table.columns) ≡ None
    calm st a closed =
        early_by e session (tasks.Create table) st that a (creates st a) ∙ ap (λ (b : Bool). state_refusal b e.counts.pending that) closed ∙ calm_create e.counts.pending

    spelled : (st : Statement) → IsAskedBy e.rows.tables session (tasks.Create table) st → IsTrue (is_spelled (statements.Create table.name table.columns))
    spelled st a = subst (λ (x : Statement). IsTrue (is_spelled x)) (creates st a) a.spelled

    pub creating_few : MayExecute e session (tasks.Create table) → length table.columns ≤ 64
    creating_few m = few_columns table.name table.columns (spelled m.st m.asked)

    pub creating_spelled : MayExecute e session (tasks.Create table) → is_some (opened_at e.seats session) ≡ false → IsTrue (has_spelling (entries.Create table.name table.columns))
    creating_spelled m closed = create_spelling e session table.name table.columns (spelled m.st m.asked) (calm m.st m.asked closed)

    pub create_open : session < 17 → is_some (opened_at e.seats session) ≡ true → Executes e session (tasks.Create table) (outcomes.Refused (refusals.State whys.TxnOpen)) e
    create_open small inside = record {
      each = λ st a. subst (λ (x : Statement). Answers e session x (Answered (replies.Refused (refusals.State whys.TxnOpen))) e) (sym (creates st a))
          (state_why_refused e session that whys.TxnOpen small refl (early_by e session (tasks.Create table) st that a (creates st a) ∙ ap (λ (b : Bool). state_refusal b e.counts.pending that) inside));
      job = λ job h. cc;
    }

    pub create_long : session < 17 → is_some (opened_at e.seats session) ≡ false → (256 ≤ length e.rows.tables) ⊎ (1073741823 ≤ e.counts.entries) → Executes e session (tasks.Create table) (outcomes.Refused refusals.Full) e
    create_long small closed h = record {
      each = λ st a. subst (λ (x : Statement). Answers e session x (Answered (replies.Refused refusals.Full)) e) (sym (creates st a)) (create_full e session table.name table.columns small (calm st a closed) h);
      job = λ job h. cc;
    }

    pub create_lacks : (new : Held) → Same e new → Executes e session (tasks.Create table) (outcomes.Refused refusals.Memory) new
    create_lacks new same = record {
      each = λ st a. subst (λ (x : Statement). Answers e session x (Answered (replies.Refused refusals.Memory)) new) (sym (creates st a)) (no_memory e new session that refl same);
      job = λ job h. cc;
    }

    pub create_done : (new : Held) → session < 17 → is_some (opened_at e.seats session) ≡ false → length e.rows.tables < 256 → e.counts.entries < 1073741823 → Created e table.name table.columns new
        → Executes e session (tasks.Create table) (outcomes.Created new.counts.commits) new
    create_done new small closed few short h = record {
      each = λ st a. subst (λ (x : Statement). Answers e session x (Append (replies.Committed new.counts.commits)) new) (sym (creates st a))
          (created_now e new session table.name table.columns small (spelled st a) (calm st a closed) few short h);
      job = λ job h. cc;
    }

  -- ---- something is asked

  module _ (session : ℕ) (question : Question) where
    -- the query that is bound resolves to the question
    resolved : (st : Statement) → IsAskedBy e.rows.tables session (tasks.Ask question) st → (o : OfAsk e.rows.tables question st) → Resolves e.rows.tables o.query question
    resolved st a o = record {
      known = subst (λ (x : Statement). names_known e.rows.tables x ≡ true) o.is a.binds.known;
      fits = subst (λ (x : Statement). kinds_fit e.rows.tables x ≡ true) o.is a.binds.fits;
      is = o.question_is;
    }

    pub asking : MayExecute e session (tasks.Ask question) → IsAsked e.rows.tables question
    asking m = let o = of_ask e.rows.tables question m.st m.asked.binds.is in record { query = o.query; resolves = resolved m.st m.asked o }

    pub told_for : (reply : Reply) → session < 17 → Tells (sight_of e session) question reply → Executes e session (tasks.Ask question) (outcomes.Told reply) e
    told_for reply small t = record {
      each = λ st a.
          let o = of_ask e.rows.tables question st a.binds.is in
          let r = resolved st a o in
          subst (λ (x : Statement). Answers e session x (Answered reply) e) (sym o.is)
          (told_now e session o.query reply small (subst (λ (x : Statement). IsTrue (is_spelled x)) o.is a.spelled) (record { known = r.known; fits = r.fits; told = λ rows sees. t.each o.query rows r sees }));
      job = λ job h. cc;
    }

    pub ask_lacks : Executes e session (tasks.Ask question) (outcomes.Refused refusals.Memory) e
    ask_lacks = record {
      each = λ st a.
          let o = of_ask e.rows.tables question st a.binds.is in
          subst (λ (x : Statement). Answers e session x (Answered (replies.Refused refusals.Memory)) e) (sym o.is) (no_memory e e session (statements.Ask o.query) refl (itself_same e));
      job = λ job h. cc;
    }
