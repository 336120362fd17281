-- A savepoint begins: what it captures is an image of the journal, and what the store then is.
use Rattle.std.proofs.Common.{◌≡◌, ◌≢◌, inl, inr, ℕ, ◌+◌, ◌*◌, ◌≤◌, ◌^◌, Bool, true, false, cond, List, length, Option, None, Some, Result, Ok, Err, refl, sym, ◌∙◌, ap, subst, arith}
use Rattle.std.specs.Prelude.{IfOk}
use Rattle.std.specs.List.{AllPairs}
use Rattle.std.proofs.lemmas.Bool.{le-leb, leb-true}
use Rattle.ut_outside.specs.declared.disk.Which.{Which}
use Rattle.ut_outside.specs.declared.disk.Which.TheVariants.{Redo, Pages, Redo2}
use Rattle.ut_outside.specs.Disk.{Image, View, IsTold}
use Rattle.ut_outside.specs.Faults.{Rose}
use Rattle.ut_outside.specs.Run.{LeavesOnly}
use Rattle.ut_redo.specs.Appends.{LogPlace}
use Rattle.ut_redo.specs.Logs.{IsLogFile, other_log, switched_place}
use Rattle.ut_plain.specs.declared.stage.Progress.TheVariants as steps
use Rattle.ut_plain.specs.declared.statement.Statement.TheVariants as statements
use Rattle.ut_plain.specs.declared.reply.Reply.{Reply}
use Rattle.ut_plain.specs.declared.reply.Reply.TheVariants as replies
use Rattle.ut_plain.specs.declared.reply.Refusal.TheVariants as refusals
use Rattle.ut_plain.specs.State.{IsState}
use Rattle.ut_plain.specs.Journal.{journal_len, current}
use Rattle.ut_plain.specs.Capture.{Directory, capture, AreHeldBy}
use Rattle.ut_plain.specs.Plain.{Plain, Phase, Idle, Writing}
use Rattle.ut_plain.specs.Limits.{has_page_room}
use Rattle.ut_plain.specs.Reached.{IsPlain}
use Rattle.ut_plain.specs.Refusals.{save_why}
use Rattle.ut_plain.specs.Step.{Stepped, step, save_begun, MayAnswer, Steps, LacksMemory}
use Rattle.ut_plain.specs.View.{view, captured_now}
use Rattle.ut_plain.proofs.JournalLaws.{length-current}
use Rattle.ut_plain.proofs.SaveLaws.{save_begun_is}
use Rattle.ut_plain.proofs.StateLaws.{IsState-current}
use Rattle.ut_pages.specs.declared.root.Root.{Root}
use Rattle.ut_pages.specs.Layout.{IsRoot}
use Rattle.ut_durable.specs.Bytes.{image_pages}
use Rattle.ut_durable.specs.Calls.{FilesHeld, Moves}
use Rattle.ut_durable.specs.Files.{IsImageOf}
use Rattle.ut_durable.specs.Journals.{place_of}
use Rattle.ut_durable.specs.Moments.{Leaves}
use Rattle.ut_durable.specs.Rules.{image_ids, IsDirectory}
use Rattle.ut_durable.specs.Saving.{Saving, IsPlan, IsStored}
use Rattle.ut_durable.proofs.BeginLemmas.{captured_image}
use Rattle.ut_durable.proofs.CaptureLemmas.{captured_is_directory}
use Rattle.ut_durable.proofs.MomentLemmas.{switch_leaves}
use Rattle.ut_durable.proofs.SavingLemmas.{begin_is_stored, switch_is_stored}
use Rattle.ut_savepoint.specs.Planning.{Plans}
use Rattle.ut_store.specs.Stands.{StandsFor}
use Rattle.ut_engine.specs.Logged.{Logged}
use Rattle.ut_engine.specs.Runs.{Runs}
use Rattle.ut_engine.specs.declared.error.SaveError.{SaveError}
use Rattle.ut_engine.specs.declared.error.SaveError.TheVariants as begins
use Rattle.ut_engine.specs.Savepoints.{progress_of, told_of, save_reply, IsCounted}
use Rattle.ut_engine.specs.Saves.{LeavesLog, Moved, Stayed, MayLeaveLog, IsCapturedRoot, HasPlanned}
use Rattle.ut_engine.specs.Serves.{IsAnswered, Serves}
use Rattle.ut_engine.proofs.CapturedLemmas.{captured_distinct}
use Rattle.ut_engine.proofs.HeldByLemmas.{held_by}
use Rattle.ut_engine.proofs.PhaseLemmas.{in_phase, is_counted, runs_on}
use Rattle.ut_engine.proofs.PlacedLemmas.{placed_rows}
use Rattle.ut_engine.proofs.RunsLemmas.{to_prefix, to_root}
use Rattle.ut_engine.proofs.SaveLemmas.{refused_full, carried_out, may_fault}
use Rattle.ut_engine.proofs.StoredLemmas.{two, stored_read, read_leaves}
use Rattle.ut_engine.proofs.UnchangedLemmas.{serves_unchanged}
use Rattle.ut_engine.proofs.WriteLemmas.{lost_save, told_sound}

module _ (old : Logged) (before : View) (p : Plain) (runs : Runs old before p) where
  abbrev image : Directory
  image = captured_now p

  -- ---- the captured root

  module _ (root : Root) (captured : IsCapturedRoot old root) where
    next_is : root.next ≡ (current p.journal).next
    next_is = captured.next ∙ runs.next.next

    length_is : root.length ≡ journal_len p.journal
    length_is = captured.length_of ∙ runs.stands.counts.entries

    commits_is : root.commits ≡ (current p.journal).commits
    commits_is = captured.commits ∙ runs.stands.counts.commits

    merges_is : root.merges ≡ (current p.journal).merges
    merges_is = captured.merges ∙ runs.stands.counts.merges

    state : IsState (current p.journal)
    state = IsState-current p.journal runs.stands.plain.base runs.stands.plain.journal

    is_root : root.offset ≤ 2147483648 * journal_len p.journal → IsRoot root
    is_root offset =
        let counts = state.counts in
        let next = state.next in
        let long = length-current p.journal in
        let short = runs.stands.plain.short in
        let file = captured.file in
        record {
          allowed = record {
            version = (omega (arith, captured.version), omega (arith, captured.version));
            file = omega (arith, file, captured.version);
            length = omega (arith, short, length_is);
            changes = omega (arith, counts, long, length_is, commits_is, merges_is);
            next = (omega (arith, next.0, next_is), omega (arith, next.1, next_is));
            offset = omega (arith, offset, length_is);
            empty = λ none. captured.no_image.1;
            some = λ none. captured.no_image.0;
          };
          image_len = omega (arith, captured.no_image.0);
          first = omega (arith, captured.no_image.1);
        }

    -- ---- what is captured

    held : AreHeldBy p.stages (current p.journal).rows
    held = held_by old.store p runs.stands.rows runs.stands.plain.opened.1

    distinct : AllPairs (λ a b. a ≢ b) (image_ids (capture (current p.journal) p.stages).stages)
    distinct = captured_distinct old.store p runs.stands.rows

    directory : IsDirectory root.next root.commits image
    directory =
        subst (λ (n : ℕ). IsDirectory n root.commits image) (sym next_is)
        (subst (λ (n : ℕ). IsDirectory (current p.journal).next n image) (sym commits_is)
        (captured_is_directory p runs.stands.plain held (placed_rows p runs.stands.plain runs.rows) distinct))

    module _ (s : Saving) (plans : Plans root old.files.reached image s) where
      same : {X : Type 0} (f : Root → X) → f s.root ≡ f (record root { image_len = s.root.image_len; first_page = s.root.first_page })
      same f = ap f plans.named

      image_of : IsRoot root → IsImageOf p.journal s.root image
      image_of rules = captured_image p s.root runs.stands.plain held distinct (plans.rules rules)
          (same (λ (r : Root). r.length) ∙ length_is)
          (length-current p.journal ∙ sym (same (λ (r : Root). r.length) ∙ length_is))
          (sym (same (λ (r : Root). r.next) ∙ next_is))
          (sym (same (λ (r : Root). r.commits) ∙ commits_is))
          (sym (same (λ (r : Root). r.merges) ∙ merges_is))

      -- there is room for its pages
      has_pages : (session : ℕ) → has_page_room (view p session) ≡ true
      has_pages session =
          let few = plans.few in
          let pages : p.image_pages image ≡ image_pages image = ap (λ (f : Directory → ℕ). f image) runs.measure in
          let reached = runs.reached in
          le-leb (3 + p.image_pages image + p.root_pages) 4294967295 (omega (arith, few, pages, reached))

      -- the log stands in another file than the selected root's, and what is known of the files is known still
      begun : (files : FilesHeld) (after : View) → place_of root ≡ files.log → files.reached ≡ old.files.reached → IsStored p.journal files runs.root runs.directory None Idle after → (files.log.file ≢ (place_of runs.root).file) → IsRoot root
          → IsStored p.journal files runs.root runs.directory (Some s) (Writing (journal_len p.journal) 0 (length s.planned) image) after
      begun files after place reached stored apart rules =
          begin_is_stored (two after after) p.journal files runs.root runs.directory s image false (image_of rules) (same (λ (r : Root). r.length) ∙ length_is) (same place_of ∙ place)
          (same (λ (r : Root). r.version) ∙ captured.version) apart plans.unsealed plans.done (subst (λ (l : List ℕ). IsPlan s.planned l s.reached s.root image) (sym reached) (plans.plan directory)) stored

-- the log's other file
other_is_log : (file : Which) → IsLogFile file → IsLogFile (other_log file)
other_is_log Redo log is = cc
other_is_log Pages log is = log refl
other_is_log Redo2 log is = cc

module _ (old : Logged) (before : View) (session : ℕ) (p : Plain) (runs : Runs old before p) (none : save_why p.phase statements.SaveBegin ≡ None) where
  idle_stored : IsStored p.journal old.files runs.root runs.directory None Idle before
  idle_stored = record { image = runs.stored.image; rests = runs.stored.rests; under_way = tt }

  -- at each moment
  pub begin_run : (after : View) → MayLeaveLog old before after → IsTold before → LeavesOnly before after (Leaves p.journal (journal_len p.journal) old.files runs.root runs.directory)
  begin_run after (inl moved) told = switch_leaves (two before after) p.journal old.files runs.root runs.directory old.saving p.phase false true (moved.0 ∙ runs.begins) moved.1 runs.stored told
  begin_run after (inr reads) told = read_leaves before after reads p.journal old.files runs.root runs.directory old.saving p.phase runs.stored told

  module _ (root : Root) (captured : IsCapturedRoot old root) (s : Saving) (plans : Plans root old.files.reached (captured_now p) s) (after : View) where
    -- where the log stands elsewhere
    answer_at : (files : FilesHeld) (new : Logged) (reply : Reply) → new ≡ record old { files = files; saving = Some s } → reply ≡ told_of (progress_of new.saving) → (IsTold before → LeavesOnly before after (Leaves p.journal (journal_len p.journal) old.files runs.root runs.directory))
        → IsStored p.journal files runs.root runs.directory (Some s) (Writing (journal_len p.journal) 0 (length s.planned) (captured_now p)) after → IsLogFile files.log.file → files.log.end ≤ 2147483648 * journal_len p.journal → files.reached ≡ old.files.reached
        → IsAnswered p before session statements.SaveBegin reply new after
    answer_at files new reply is is_told run stored log short reached =
        let image : Directory = captured_now p in
        let pages : length s.planned ≡ p.image_pages image = plans.pages ∙ sym (ap (λ (f : Directory → ℕ). f image) runs.measure) in
        let phase : Phase = Writing (journal_len p.journal) 0 (p.image_pages image) image in
        let room = has_pages old before p runs root captured s plans in
        let plain : IsPlain (in_phase p phase p.root_pages) = save_begun_is p runs.stands.plain (room 0) in
        let here = subst (λ (n : ℕ). IsStored p.journal files runs.root runs.directory (Some s) (Writing (journal_len p.journal) 0 n image) after) pages stored in
        let on = runs_on old before after p runs files (Some s) phase plain here plans.even log short reached in
        let step_is : step p session statements.SaveBegin ≡ save_begun p = carried_out p session statements.SaveBegin refl none (room session) in
        let told : told_of (progress_of new.saving) ≡ replies.Saving 0 (p.image_pages image) =
        ap (λ (e : Logged). told_of (progress_of e.saving)) is
        ∙ ap (λ (x : Bool). told_of (cond x (steps.Sealed (length s.planned)) (steps.Writing s.done (length s.planned)))) plans.unsealed
        ∙ (λ i. replies.Saving (plans.done i) (pages i)) in
        record {
          plain = in_phase p phase p.root_pages;
          may = Steps (is_told ∙ told ∙ sym (ap (λ (x : Stepped). x.reply) step_is)) (sym (ap (λ (x : Stepped). x.plain) step_is));
          runs = subst (λ (e : Logged). Runs e after (in_phase p phase p.root_pages)) (sym is) on;
          sound = λ fault. told_sound new.saving (sym is_told ∙ fault);
          any_moment = λ t. to_prefix before after p.journal (journal_len p.journal) old p runs (run t);
        }

    pub begun_answer : (mid new : Logged) (reply : Reply) → LeavesLog old before mid after → new ≡ record mid { saving = Some s } → MayLeaveLog old before after → reply ≡ told_of (progress_of new.saving) → IsAnswered p before session statements.SaveBegin reply new after
    begun_answer mid new reply (Moved here same moves) is may is_told =
        let files : FilesHeld = record old.files { log = switched_place old.files.log } in
        let moved : Moves old.files files before after = subst (λ (f : FilesHeld). Moves old.files f before after) (ap (λ (e : Logged). e.files) same) moves in
        let place : place_of root ≡ files.log = captured.place.moved here in
        let rules = is_root old before p runs root captured (omega (arith, ap (λ (l : LogPlace). l.end) place)) in
        let stored = switch_is_stored (two before after) p.journal old.files files runs.root runs.directory false true (here ∙ runs.begins) refl moved idle_stored in answer_at files new reply (is ∙ ap (λ (e : Logged). record e { saving = Some s }) same) is_told (begin_run after may)
        (begun old before p runs root captured s plans files after place refl stored.0 stored.1 rules) (other_is_log old.files.log.file runs.log) (omega arith) refl
    begun_answer mid new reply (Stayed there same reads) is may is_told =
        let place : place_of root ≡ old.files.log = captured.place.stays there in
        let rules = is_root old before p runs root captured (let short = runs.short in omega (arith, short, ap (λ (l : LogPlace). l.end) place)) in
        let stored = stored_read before after reads p.journal old.files runs.root runs.directory None Idle idle_stored in
        answer_at old.files new reply (is ∙ ap (λ (e : Logged). record e { saving = Some s }) same) is_told (begin_run after may)
        (begun old before p runs root captured s plans old.files after place refl stored (λ at. there (at ∙ sym runs.begins)) rules) runs.log runs.short refl

  -- there were too many pages
  full_room : 2 ^ 32 ≤ 3 + image_pages (captured_now p) + length old.files.reached → has_page_room (view p session) ≡ false
  full_room many = by (has_page_room (view p session)) refl
    where
      by : (b : Bool) → has_page_room (view p session) ≡ b → has_page_room (view p session) ≡ false
      by false is = is
      by true is =
          let within = leb-true (3 + p.image_pages (captured_now p) + p.root_pages) 4294967295 is in
          let reached = runs.reached in
          absurd (omega (arith, many, within, reached, ap (λ (f : Directory → ℕ). f (captured_now p)) runs.measure))

  pub full_answer : 2 ^ 32 ≤ 3 + image_pages (captured_now p) + length old.files.reached → MayAnswer p session statements.SaveBegin (replies.Refused refusals.Full) p
  full_answer many = refused_full p session statements.SaveBegin refl none (full_room many)

begin_flip : statements.SaveBegin ≡ statements.SaveFlip → ⊥
begin_flip is = cc

pub serves_begun : (old mid new : Logged) (before after : View) (session : ℕ) (reply : Reply) (root : Root) (s : Saving) → ((p : Plain) → Runs old before p → save_why p.phase statements.SaveBegin ≡ None) → IsCapturedRoot old root
    → ((p : Plain) → StandsFor old.store p → Plans root old.files.reached (captured_now p) s) → LeavesLog old before mid after → MayLeaveLog old before after → new ≡ record mid { saving = Some s } → reply ≡ told_of (progress_of new.saving)
    → after.told ≡ before.told → after.faults ≡ before.faults → Serves old before session statements.SaveBegin reply new after
serves_begun old mid new before after session reply root s none captured plans left may is is_told told same = record {
  each = λ p runs. inl (begun_answer old before session p runs (none p runs) root captured s (plans p runs.stands) after mid new reply left is may is_told);
  keeps = λ p runs other t. to_root before after p.journal (journal_len p.journal) old p runs (begin_run old before session p runs (none p runs) after may t);
  selects = λ p runs flip. absurd (begin_flip flip);
  told = told;
  later = omega (arith, same);
  cause = λ fault. absurd (told_sound new.saving (sym is_told ∙ fault));
  still = λ _. same;
}

pub serves_unbegun : (old new : Logged) (before after : View) (session : ℕ) (reply : Reply) (root : Root) (s : Saving) → ((p : Plain) → Runs old before p → save_why p.phase statements.SaveBegin ≡ None) → IsCapturedRoot old root
    → ((p : Plain) → StandsFor old.store p → Plans root old.files.reached (captured_now p) s) → MayLeaveLog old before after → reply ≡ replies.DiskFault → new.down ≡ true → new.store ≡ old.store
    → after.told ≡ before.told → before.faults ≤ after.faults → Rose before.faults after.faults → Serves old before session statements.SaveBegin reply new after
serves_unbegun old new before after session reply root s none captured plans may fault down kept told later rose = subst (λ (r : Reply). Serves old before session statements.SaveBegin r new after) (sym fault) (record {
  each = λ p runs. inr (lost_save old new before after session statements.SaveBegin p refl
      (may_fault p session statements.SaveBegin refl (none p runs) (has_pages old before p runs root captured s (plans p runs.stands) session) refl) runs.stands down kept
      (λ t. to_prefix before after p.journal (journal_len p.journal) old p runs (begin_run old before session p runs (none p runs) after may t)));
  keeps = λ p runs other t. to_root before after p.journal (journal_len p.journal) old p runs (begin_run old before session p runs (none p runs) after may t);
  selects = λ p runs flip. absurd (begin_flip flip);
  told = told;
  later = later;
  cause = λ _. rose;
  still = λ sound. absurd (sound refl);
})

-- ---- where there are no numbers for its pages

pub serves_full : (e : Logged) (disk : View) (session : ℕ) → ((c : Image) → disk.crash_states_since disk.moment c → disk.crash_states c) → ((p : Plain) → Runs e disk p → save_why p.phase statements.SaveBegin ≡ None)
    → ((p : Plain) → StandsFor e.store p → 2 ^ 32 ≤ 3 + image_pages (captured_now p) + length e.files.reached) → Serves e disk session statements.SaveBegin (replies.Refused refusals.Full) e disk
serves_full e disk session only none many =
    serves_unchanged e disk session statements.SaveBegin (replies.Refused refusals.Full) only (λ p runs. full_answer e disk session p runs (none p runs) (many p runs.stands)) (λ fault. cc) (λ n root. no_root n root)
  where
    no_root : (n : ℕ) → replies.Refused refusals.Full ≡ replies.Root n → ⊥
    no_root n is = cc

-- ---- where memory is wanting

pub serves_no_memory : (e : Logged) (disk : View) (session : ℕ) → ((c : Image) → disk.crash_states_since disk.moment c → disk.crash_states c) → Serves e disk session statements.SaveBegin (replies.Refused refusals.Memory) e disk
serves_no_memory e disk session only =
    serves_unchanged e disk session statements.SaveBegin (replies.Refused refusals.Memory) only (λ p runs. LacksMemory refl refl refl) (λ fault. cc) (λ n root. no_root n root)
  where
    no_root : (n : ℕ) → replies.Refused refusals.Memory ≡ replies.Root n → ⊥
    no_root n is = cc

-- ---- what is told of the savepoint that was planned

first_told : (root : Root) (reached : List ℕ) (d : Directory) (s : Saving) → Plans root reached d s → told_of (progress_of (Some s)) ≡ replies.Saving 0 (length s.planned)
first_told root reached d s plans =
    ap (λ (x : Bool). told_of (cond x (steps.Sealed (length s.planned)) (steps.Writing s.done (length s.planned)))) plans.unsealed ∙ ap (λ (n : ℕ). replies.Saving n (length s.planned)) plans.done

pub begun_told : (root : Root) (reached : List ℕ) (d : Directory) (s : Saving) → Plans root reached d s → (pages : ℕ) → pages ≡ length s.planned → replies.Saving 0 pages ≡ told_of (progress_of (Some s))
begun_told root reached d s plans pages count = ap (λ (n : ℕ). replies.Saving 0 n) count ∙ sym (first_told root reached d s plans)

pub begun_counted : (old mid : Logged) (before after : View) (p : Plain) (runs : Runs old before p) → save_why p.phase statements.SaveBegin ≡ None → (root : Root) (s : Saving) → IsCapturedRoot old root → Plans root old.files.reached (captured_now p) s
    → LeavesLog old before mid after → MayLeaveLog old before after → IsCounted (Some s)
begun_counted old mid before after p runs none root s captured plans left may =
    let new : Logged = record mid { saving = Some s } in
    let answer = begun_answer old before 0 p runs none root captured s plans after mid new (told_of (progress_of new.saving)) left refl may refl in
    is_counted new after answer.plain answer.runs

-- what it has planned
pub begun_planned : (old : Logged) (p : Plain) (root : Root) (s : Saving) → StandsFor old.store p → ((q : Plain) → StandsFor old.store q → Plans root old.files.reached (captured_now q) s) → (pages : ℕ) → pages ≡ length s.planned → HasPlanned old (Some s) pages
begun_planned old p root s stands plans pages count = record { begun = s; held = refl; count = sym count; takes = (plans p stands).takes; chains = λ q other. (plans q other).chains }

-- what the reply says of it
pub planned_told : (old : Logged) (saving : Option Saving) (answer : Result ℕ SaveError) (pages : ℕ) → IfOk answer (HasPlanned old saving) → save_reply answer ≡ replies.Saving 0 pages → HasPlanned old saving pages
planned_told old saving (Ok n) pages planned is = subst (HasPlanned old saving) (told_pages is) planned
  where
    told_pages : replies.Saving 0 n ≡ replies.Saving 0 pages → n ≡ pages
    told_pages same = cc
planned_told old saving (Err (begins.State why)) pages planned is = cc
planned_told old saving (Err begins.Full) pages planned is = cc
planned_told old saving (Err begins.Memory) pages planned is = cc
planned_told old saving (Err begins.Disk) pages planned is = cc
