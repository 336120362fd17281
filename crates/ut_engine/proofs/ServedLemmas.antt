-- What typed calls of the store in memory make of a running store and its files.
use Rattle.std.proofs.Common.{is_some, None, Some, arith, ◌≡◌, ◌<◌, ◌≤◌, ⊎_elim, ℕ, Bool, true, false, List, cond, nat_le, nat_lt, le-leb, length, refl, sym, ◌∙◌, ap, subst, IsTrue}
use Rattle.std.specs.Option.{option_map}
use Rattle.std.proofs.lemmas.Bool.{cases_Bool}
use Rattle.ut_outside.specs.Disk.{View as Disk, Image}
use Rattle.ut_outside.proofs.RunLemmas.{reads_start}
use Rattle.ut_value.specs.declared.entry.MergeKind.{MergeKind}
use Rattle.ut_value.specs.Spelling.{is_count}
use Rattle.ut_value.specs.Text.{is_name, same_bytes}
use Rattle.ut_plain.specs.declared.table.Table.{Table}
use Rattle.ut_plain.specs.declared.statement.Statement.{Statement}
use Rattle.ut_plain.specs.declared.statement.Statement.TheVariants as statements
use Rattle.ut_plain.specs.declared.reply.Reply.{Reply}
use Rattle.ut_plain.specs.declared.reply.Reply.TheVariants as replies
use Rattle.ut_plain.specs.declared.reply.Refusal.{Refusal}
use Rattle.ut_plain.specs.declared.reply.Refusal.TheVariants as refusals
use Rattle.ut_plain.specs.declared.reply.Why.TheVariants as whys
use Rattle.ut_plain.specs.Names.{has_table, names_known}
use Rattle.ut_plain.specs.Plain.{Plain}
use Rattle.ut_plain.specs.Tables.{place_of}
use Rattle.ut_plain.specs.Limits.{has_room}
use Rattle.ut_plain.specs.Refusals.{is_save, state_why, merge_why, save_why, unless, or_else, conflict, refusal}
use Rattle.ut_plain.specs.Spelled.{is_spelled}
use Rattle.ut_plain.specs.Step.{Stepped, may_lack_memory, MayAnswer, Steps, LacksMemory}
use Rattle.ut_plain.specs.View.{View, view}
use Rattle.ut_plain.proofs.BoolLemmas.{and_both}
use Rattle.ut_plain.proofs.ListLemmas.{position_below}
use Rattle.ut_names.specs.declared.bound.Bound.TheVariants as bounds
use Rattle.ut_names.specs.declared.bound.Piece.{Piece}
use Rattle.ut_names.specs.declared.bound.Piece.TheVariants as pieces
use Rattle.ut_names.specs.declared.bound.Task.{Task}
use Rattle.ut_names.specs.declared.bound.Task.TheVariants as tasks
use Rattle.ut_names.specs.Binding.{Binds, IsTask, statement_of}
use Rattle.ut_names.proofs.BindingLemmas.{binds_merge_l1, binds_merge, binds_shape}
use Rattle.ut_durable.specs.Calls.{MayGain}
use Rattle.ut_nextid.specs.declared.next_ids.Ending.{Ending}
use Rattle.ut_nextid.specs.declared.next_ids.Ending.TheVariants.{Neither}
use Rattle.ut_nextid.specs.NextIds.{Noted, ending_of, noted, noted_as, with_rows}
use Rattle.ut_store.specs.declared.outcome.Outcome.{Outcome}
use Rattle.ut_store.specs.declared.outcome.Outcome.TheVariants as outcomes
use Rattle.ut_store.specs.declared.response.Response.{Response}
use Rattle.ut_store.specs.declared.response.Response.TheVariants.{Answered, Append}
use Rattle.ut_store.specs.Held.{Held}
use Rattle.ut_store.specs.Answers.{Answers}
use Rattle.ut_store.specs.Executing.{Executes, ExecutesFor, IsAskedBy}
use Rattle.ut_store.specs.Jobs.{pending_job}
use Rattle.ut_store.specs.Outcomes.{response_of}
use Rattle.ut_store.specs.Standing.{suits_session}
use Rattle.ut_store.proofs.AskedMergeLemmas.{nothing_pending}
use Rattle.ut_store.proofs.StandsLemmas.{stepped}
use Rattle.ut_store.proofs.WayLemmas.{answers, kept_back}
use Rattle.ut_engine.specs.Handing.{Appended, Concludes, NotAppended}
use Rattle.ut_engine.specs.Logged.{Logged}
use Rattle.ut_engine.specs.Runs.{Runs}
use Rattle.ut_engine.specs.Serves.{Serves}
use Rattle.ut_engine.proofs.NotedLemmas.{same_both, noted_refused}
use Rattle.ut_engine.proofs.UnchangedLemmas.{serves_unchanged}
use Rattle.ut_engine.proofs.RunsLemmas.{serves_stays, serves_grows, serves_fails, serves_concluded}

-- a statement that ends no transaction, and changes no rows, notes nothing
quiet_noted : (n : Noted) (session : ℕ) (st : Statement) (reply : Reply) (before after : ℕ) → ending_of st ≡ Neither → with_rows n session reply after ≡ n → noted n session st reply before after ≡ n
quiet_noted n session st reply before after neither none =
    ap (λ (e : Ending). noted_as n session e reply before after) neither ∙ ap (λ (m : Noted). cond (nat_lt before after) m n) none ∙ same_both (nat_lt before after) n

module _ (old : Logged) (disk : Disk) (session : ℕ) (low : session < 17) (st : Statement) (served : is_save st ≡ false) (spelled : IsTrue (is_spelled st)) (ran : (p : Plain) × Runs old disk p) where
  -- it is answered at once, and nothing is noted
  pub serves_told : (store : Held) (reply : Reply) → ((c : Image) → disk.crash_states_since disk.moment c → disk.crash_states c) → ending_of st ≡ Neither → with_rows old.next session reply store.counts.next_id ≡ old.next
      → Answers old.store session st (Answered reply) store → Serves old disk session st reply (record old { store = store }) disk
  serves_told store reply only neither none answers =
      subst (λ (next : Noted). Serves old disk session st reply (record old { store = store; next = next }) disk) (quiet_noted old.next session st reply old.store.counts.next_id store.counts.next_id neither none)
      (serves_stays old disk disk session low st served spelled store reply ran.0 ran.1 (reads_start disk only) refl answers)

  -- it is refused
  pub serves_refused : (why : Refusal) → ((c : Image) → disk.crash_states_since disk.moment c → disk.crash_states c) → Answers old.store session st (Answered (replies.Refused why)) old.store
      → Serves old disk session st (replies.Refused why) old disk
  serves_refused why only answers =
      subst (λ (next : Noted). Serves old disk session st (replies.Refused why) (record old { next = next }) disk) (noted_refused old.next session st why old.store.counts.next_id old.store.counts.next_id)
      (serves_stays old disk disk session low st served spelled old.store (replies.Refused why) ran.0 ran.1 (reads_start disk only) refl answers)

  -- a merge begins or ends, whose entry is appended
  module _ (after : Disk) (store : Held) (number : ℕ) (neither : ending_of st ≡ Neither) (answers : Answers old.store session st (Append (replies.Merge number)) store) (moments : MayGain store.frame old.files disk after) where
    pub serves_merge : (new : Logged) → new ≡ record old { store = store; files = new.files } → Appended old.files new.files store.frame disk after → Serves old disk session st (replies.Merge number) new after
    serves_merge new kept done =
        subst (λ (e : Logged). Serves old disk session st (replies.Merge number) e after) (sym kept)
        (subst (λ (next : Noted). Serves old disk session st (replies.Merge number) (record old { store = store; files = new.files; next = next }) after)
        (quiet_noted old.next session st (replies.Merge number) old.store.counts.next_id store.counts.next_id neither refl)
        (serves_grows old disk after session low st served spelled store (replies.Merge number) ran.0 ran.1 answers moments new.files done))

    -- the disk failed
    pub serves_no_merge : (new : Logged) → new ≡ record old { store = store; down = true } → NotAppended disk after → Serves old disk session st replies.DiskFault new after
    serves_no_merge new gone failed =
        serves_fails old disk after session low st served spelled store (replies.Merge number) ran.0 ran.1 answers moments new (ap (λ (e : Logged). e.down) gone) (ap (λ (e : Logged). e.store) gone) failed

-- ---- a task is none of a savepoint

pub task_served : (tables : List Table) (st : Statement) (task : Task) → IsTask tables st task → is_save st ≡ false
task_served tables statements.SaveBegin task h = absurd h
task_served tables (statements.SaveStep n) task h = absurd h
task_served tables statements.SaveSeal task h = absurd h
task_served tables statements.SaveFlip task h = absurd h
task_served tables statements.SaveDrop task h = absurd h
task_served tables _ task h = refl

-- it isn't the end of a savepoint that is given up
pub task_keeps : (tables : List Table) (st : Statement) (task : Task) → IsTask tables st task → st ≡ statements.SaveDrop → ⊥
task_keeps tables st task is drop = let no : true ≡ false = ap is_save (sym drop) ∙ task_served tables st task is in cc

-- nor the begin of one
pub task_begins : (tables : List Table) (st : Statement) (task : Task) → IsTask tables st task → st ≡ statements.SaveBegin → ⊥
task_begins tables st task is begin = let no : true ≡ false = ap is_save (sym begin) ∙ task_served tables st task is in cc

-- what was bound and executed is concluded
pub serves_executed : (old new : Logged) (store : Held) (task : Task) (outcome : Outcome) (response : Response) (first : ℕ) (before after : Disk) (session : ℕ) (st : Statement) (reply : Reply) → session < 17 → IsTrue (suits_session session st)
    → IsTrue (is_spelled st) → (p : Plain) × Runs old before p → first ≡ old.store.counts.next_id → Binds old.store.rows.tables st (bounds.Task task) → Executes old.store session task outcome store → response ≡ response_of outcome
    → Concludes response session st first (record old { store = store }) before reply new after → Serves old before session st reply new after
serves_executed old new store task outcome response first before after session st reply low suits spelled ran was binds does is done =
    serves_concluded old new store response first before after session st reply low (task_served old.store.rows.tables st task binds.is) spelled ran was
    (subst (λ (r : Response). Answers old.store session st r store) (sym is) (answers old.store store session st task outcome binds suits spelled does)) done

-- ---- a piece of a savepoint

-- what isn't bound is none
pub unsaved : (st : Statement) → (is_save st ≡ true → ⊥) → is_save st ≡ false
unsaved st not = ⊎_elim (λ is. absurd (not is)) (λ is. is) (cases_Bool (is_save st))

pub piece_dropped : (piece : Piece) → statement_of piece ≡ statements.SaveDrop → piece ≡ pieces.GiveUp
piece_dropped pieces.Begin is = cc
piece_dropped (pieces.Step n) is = cc
piece_dropped pieces.Seal is = cc
piece_dropped pieces.Flip is = cc
piece_dropped pieces.GiveUp is = refl

pub piece_begun : (piece : Piece) → statement_of piece ≡ statements.SaveBegin → piece ≡ pieces.Begin
piece_begun pieces.Begin is = refl
piece_begun (pieces.Step n) is = cc
piece_begun pieces.Seal is = cc
piece_begun pieces.Flip is = cc
piece_begun pieces.GiveUp is = cc

-- ---- memory was wanting before anything was done

pub wants_memory : (e : Logged) (disk : Disk) (session : ℕ) (st : Statement) → ((c : Image) → disk.crash_states_since disk.moment c → disk.crash_states c) → IsTrue (may_lack_memory st) → Serves e disk session st (replies.Refused refusals.Memory) e disk
wants_memory e disk session st only lacks = serves_unchanged e disk session st (replies.Refused refusals.Memory) only (λ p runs. LacksMemory lacks refl refl) (λ fault. cc) (λ n is. no_root n is)
  where
    no_root : (n : ℕ) → replies.Refused refusals.Memory ≡ replies.Root n → ⊥
    no_root n is = cc

-- ---- where no merge is pending none ends

no_state_end : (inside : Bool) → state_why inside statements.MergeEnd ≡ None
no_state_end true = refl
no_state_end false = refl

none_ends : (v : View) → v.pending ≡ None → refusal v statements.MergeEnd ≡ Some (refusals.State whys.Nothing)
none_ends v idle =
    let rest = or_else (option_map refusals.State (save_why v.phase statements.MergeEnd)) (or_else (unless (has_room v statements.MergeEnd) refusals.Full) (option_map refusals.Conflict (conflict v statements.MergeEnd))) in
    λ i. or_else (option_map refusals.State (no_state_end (is_some v.own) i)) (or_else (option_map refusals.State (merge_why (idle i) statements.MergeEnd)) rest)

pub serves_nothing : (e : Logged) (disk : Disk) (session : ℕ) → ((c : Image) → disk.crash_states_since disk.moment c → disk.crash_states c) → pending_job e.store ≡ None
    → Serves e disk session statements.MergeEnd (replies.Refused (refusals.State whys.Nothing)) e disk
serves_nothing e disk session only none =
    serves_unchanged e disk session statements.MergeEnd (replies.Refused (refusals.State whys.Nothing)) only may (λ fault. cc) (λ n is. no_root n is)
  where
    may : (p : Plain) → Runs e disk p → MayAnswer p session statements.MergeEnd (replies.Refused (refusals.State whys.Nothing)) p
    may p runs =
        let idle = nothing_pending e.store (record { plain = p; stands = runs.stands }) none in
        let now = stepped p session statements.MergeEnd (Some (refusals.State whys.Nothing)) (none_ends (view p session) (sym runs.stands.counts.pending ∙ idle)) in
        Steps (ap (λ (r : Stepped). r.reply) (sym now)) (ap (λ (r : Stepped). r.plain) (sym now))

    no_root : (n : ℕ) → replies.Refused (refusals.State whys.Nothing) ≡ replies.Root n → ⊥
    no_root n is = cc

-- ---- the operator's statements of a table that was looked up

-- there is no such table
pub unknown : (e : Held) (name : List ℕ) (st : Statement) → is_save st ≡ false → names_known e.rows.tables st ≡ has_table e.rows.tables name → place_of e.rows.tables name ≡ None → Answers e 0 st (Answered (replies.Refused refusals.Name)) e
unknown e name st served known none = kept_back e 0 st refusals.Name (omega arith) served (known ∙ ap is_some none) (λ h. cc)

pub asked_l1 : (e : Held) (name : List ℕ) (n at : ℕ) → IsTrue (is_spelled (statements.MergeL1 name n)) → place_of e.rows.tables name ≡ Some at → IsAskedBy e.rows.tables 0 (tasks.MergeL1 at n) (statements.MergeL1 name n)
asked_l1 e name n at spelled is = record { binds = binds_merge_l1 e.rows.tables name n at is; suits = refl; spelled = spelled }

pub asked_shape : (e : Held) (name : List ℕ) (at : ℕ) → IsTrue (is_spelled (statements.Shape name)) → place_of e.rows.tables name ≡ Some at → IsAskedBy e.rows.tables 0 (tasks.Shape at) (statements.Shape name)
asked_shape e name at spelled is = record { binds = binds_shape e.rows.tables name at is; suits = refl; spelled = spelled }

pub asked_merge : (e : Held) (name : List ℕ) (kind : MergeKind) (at : ℕ) → IsTrue (is_spelled (statements.MergeBegin name kind)) → place_of e.rows.tables name ≡ Some at
    → IsAskedBy e.rows.tables 0 (tasks.MergeBegin at kind) (statements.MergeBegin name kind)
asked_merge e name kind at spelled is = record { binds = binds_merge e.rows.tables name kind at is; suits = refl; spelled = spelled }

-- ---- a table that was looked up

pub below : (tables : List Table) (name : List ℕ) (n : ℕ) → place_of tables name ≡ Some n → n < length tables
below tables name n is = position_below (λ (table : Table). same_bytes table.name name) tables n is

pub spelled_l1 : (name : List ℕ) (n : ℕ) → IsTrue (is_name name) → 1 ≤ n → n ≤ 1048576 → IsTrue (is_spelled (statements.MergeL1 name n))
spelled_l1 name n rule some few = and_both (is_name name) (is_count 1048576 n) rule (and_both (nat_le 1 n) (nat_le n 1048576) (le-leb 1 n some) (le-leb n 1048576 few))

-- ---- no merge begins of a table that was looked up

pub serves_stopped : (old : Logged) (disk : Disk) (store : Held) (name : List ℕ) (kind : MergeKind) (at : ℕ) (why : Refusal) → ((c : Image) → disk.crash_states_since disk.moment c → disk.crash_states c) → (p : Plain) × Runs old disk p
    → IsTrue (is_spelled (statements.MergeBegin name kind)) → place_of old.store.rows.tables name ≡ Some at → ExecutesFor old.store (tasks.MergeBegin at kind) (outcomes.Refused why) store
    → Serves old disk 0 (statements.MergeBegin name kind) (replies.Refused why) (record old { store = store }) disk
serves_stopped old disk store name kind at why only ran spelled is does =
    serves_told old disk 0 (omega arith) (statements.MergeBegin name kind) refl spelled ran store (replies.Refused why) only refl refl
    ((does 0 (omega arith)).each (statements.MergeBegin name kind) (asked_merge old.store name kind at spelled is))
