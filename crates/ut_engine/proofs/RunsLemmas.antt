-- What a running store's files hold, before an entry is appended, while it is and after.
use Rattle.std.proofs.Common.{◌≡◌, inl, inr, ℕ, ◌+◌, ◌*◌, ◌≤◌, ◌<◌, true, false, List, length, refl, sym, ◌∙◌, ap, subst, arith, IsTrue}
use Rattle.ut_outside.specs.Disk.{View, IsTold}
use Rattle.ut_outside.specs.Run.{LeavesOnly, ReadsOnly}
use Rattle.ut_outside.proofs.RunLemmas.{weaker}
use Rattle.ut_value.specs.declared.entry.Entry.{Entry}
use Rattle.ut_value.specs.Spelling.{spelling, Spells}
use Rattle.ut_value.proofs.OneSpelling.{entry_rule}
use Rattle.ut_value.proofs.SpellingLengths.{entry_length}
use Rattle.ut_redo.specs.Logs.{IsLogFile}
use Rattle.ut_plain.specs.Journal.{Journal, journal_len, appended, IsJournal}
use Rattle.ut_plain.specs.Plain.{Plain, Phase}
use Rattle.ut_plain.specs.Reached.{IsPlain}
use Rattle.ut_plain.specs.Refusals.{is_save}
use Rattle.ut_plain.specs.Spelled.{is_spelled}
use Rattle.ut_plain.specs.Step.{MayAnswer}
use Rattle.ut_plain.specs.declared.statement.Statement.{Statement}
use Rattle.ut_plain.specs.declared.statement.Statement.TheVariants.{SaveFlip}
use Rattle.ut_plain.specs.declared.reply.Reply.{Reply}
use Rattle.ut_plain.specs.declared.reply.Reply.TheVariants.{DiskFault}
use Rattle.ut_plain.proofs.JournalLaws.{journal_len-appended}
use Rattle.ut_plain.proofs.TranscriptLaws.{fault-appends}
use Rattle.ut_durable.specs.Calls.{FilesHeld, MayGain}
use Rattle.ut_durable.specs.Files.{HasSelected}
use Rattle.ut_durable.specs.Journals.{HoldsPrefix}
use Rattle.ut_durable.specs.Moments.{Leaves}
use Rattle.ut_durable.specs.Saving.{IsStored}
use Rattle.ut_durable.proofs.CallLemmas.{settled}
use Rattle.ut_durable.proofs.MomentLemmas.{append_leaves}
use Rattle.ut_durable.proofs.SavingLemmas.{append_is_stored}
use Rattle.ut_store.specs.declared.response.Response.{Response}
use Rattle.ut_store.specs.declared.response.Response.TheVariants.{Answered, Append}
use Rattle.ut_store.specs.Held.{Held}
use Rattle.ut_store.specs.Standing.{Stands}
use Rattle.ut_store.specs.Stands.{StandsFor}
use Rattle.ut_store.specs.Answers.{Answer, Answers}
use Rattle.ut_engine.specs.Handing.{AreReady, Concludes, Appended, NotAppended, HandsOut, AtOnce, Logs, Fails}
use Rattle.ut_engine.specs.Logged.{Logged}
use Rattle.ut_placed.specs.Placed.{HasRows}
use Rattle.ut_nextid.specs.NextIds.{Noted, Keeps, noted}
use Rattle.ut_engine.specs.Runs.{Runs}
use Rattle.ut_engine.specs.Serves.{IsAnswered, IsLost, KeepsRoot, Serves}
use Rattle.ut_engine.proofs.JournalLemmas.{last_spelled}
use Rattle.ut_engine.proofs.NotedLemmas.{answer_noted}
use Rattle.ut_engine.proofs.PlacedLemmas.{answer_rows}
use Rattle.ut_engine.proofs.ReplyLemmas.{answer_sound, step_adds}
use Rattle.ut_engine.proofs.SteadyLemmas.{Steady, answer_steady}
use Rattle.ut_engine.proofs.StoredLemmas.{two, stored_read, read_leaves}

-- a running store stands for a plain state
pub runs_stand : (e : Logged) (disk : View) → (p : Plain) × Runs e disk p → Stands e.store
runs_stand e disk ran = record { plain = ran.0; stands = ran.1.stands }

-- and its files may be written
pub are_ready : (e : Logged) (disk : View) → (p : Plain) × Runs e disk p → AreReady e.files disk
are_ready e disk ran =
    let p : Plain = ran.0 in
    let runs : Runs e disk p = ran.1 in
    record {
      log = runs.log;
      room = let short = runs.short in let few = runs.stands.plain.short in omega (arith, short, few);
      settled = settled p.journal runs.root runs.directory e.files disk runs.stored.rests;
    }

-- the payload of what the log gains is the spelling of an entry
spells : (p q : Plain) (entry : Entry) (payload : List ℕ) → IsPlain q → q.journal ≡ appended p.journal entry → payload ≡ spelling entry → Spells payload entry
spells p q entry payload h next is = (last_spelled p.journal entry (subst IsJournal next h.journal), is)

-- ---- what a crash leaves, as a statement promises it

pub to_prefix : (before after : View) (j : Journal) (least : ℕ) (e : Logged) (p : Plain) (runs : Runs e before p) → LeavesOnly before after (Leaves j least e.files runs.root runs.directory) → LeavesOnly before after (HoldsPrefix j least)
to_prefix before after j least e p runs run = weaker before after (Leaves j least e.files runs.root runs.directory) (HoldsPrefix j least) (λ c h. h.holds) run

pub to_root : (before after : View) (j : Journal) (least : ℕ) (e : Logged) (p : Plain) (runs : Runs e before p) → LeavesOnly before after (Leaves j least e.files runs.root runs.directory)
    → LeavesOnly before after (HasSelected e.files.slot e.files.reached runs.root runs.directory)
to_root before after j least e p runs run = weaker before after (Leaves j least e.files runs.root runs.directory) (HasSelected e.files.slot e.files.reached runs.root runs.directory) (λ c h. h.root) run

-- ---- a store that runs on with the same savepoint

module _ (old : Logged) (before after : View) (p q : Plain) (runs : Runs old before p) where
  pub carried : (store : Held) (files : FilesHeld) (next : Noted) → StandsFor store q → HasRows q → Keeps next q → Steady p q → files.reached ≡ old.files.reached → files.log.file ≡ old.files.log.file → files.log.end ≤ 2147483648 * journal_len q.journal
      → IsStored q.journal files runs.root runs.directory old.saving p.phase after → Runs (record old { store = store; files = files; next = next }) after q
  carried store files next stands rows keeps steady reached file short stored = record {
    up = runs.up;
    stands = stands;
    root = runs.root;
    directory = runs.directory;
    stored = subst (λ (phase : Phase). IsStored q.journal files runs.root runs.directory old.saving phase after) (sym steady.phase) stored;
    begins = runs.begins;
    even = runs.even;
    log = subst IsLogFile (sym file) runs.log;
    short = short;
    measure = steady.measure ∙ runs.measure;
    reached = steady.pages ∙ runs.reached ∙ ap length (sym reached);
    rows = rows;
    next = keeps;
  }

-- ---- the three turns

-- what is noted of the next id once a statement was answered
abbrev pub noted_by : Logged → ℕ → Statement → Reply → Held → Noted
noted_by old session st reply store = noted old.next session st reply old.store.counts.next_id store.counts.next_id

-- the store, once that is noted
abbrev with_noted : Logged → (before : Held) → ℕ → Statement → Reply → Logged
with_noted mid before session st reply = record mid { next = noted mid.next session st reply before.counts.next_id mid.store.counts.next_id }

module _ (old : Logged) (before after : View) (session : ℕ) (low : session < 17) (st : Statement) (served : is_save st ≡ false) (spelled : IsTrue (is_spelled st)) (store : Held) (reply : Reply) (p : Plain) (runs : Runs old before p) where
  next_kept : (q : Plain) → StandsFor store q → MayAnswer p session st reply q → Keeps (noted_by old session st reply store) q
  next_kept q stands may =
      subst (λ (b : ℕ). Keeps (noted old.next session st reply b store.counts.next_id) q) (sym runs.stands.counts.next_id)
      (subst (λ (a : ℕ). Keeps (noted old.next session st reply p.next_id a) q) (sym stands.counts.next_id)
      (answer_noted old.next p session st reply q low runs.stands.plain spelled runs.next may))

  -- nothing was appended
  stays : ReadsOnly before after → Answer old.store session st (Answered reply) store p → IsAnswered p before session st reply (record old { store = store; next = noted_by old session st reply store }) after
  stays reads answer =
      let stored = stored_read before after reads p.journal old.files runs.root runs.directory old.saving p.phase runs.stored in
      let short = runs.short in
      record {
        plain = answer.after;
        may = answer.may;
        runs = carried old before after p answer.after runs store old.files (noted_by old session st reply store) answer.stands (answer_rows p session st reply answer.after runs.stands.plain spelled runs.rows answer.may)
            (next_kept answer.after answer.stands answer.may) (answer_steady p session st reply answer.after served answer.may) refl refl (omega (arith, short, ap journal_len answer.logs))
            (subst (λ (j : Journal). IsStored j old.files runs.root runs.directory old.saving p.phase after) (sym answer.logs) stored);
        sound = answer_sound p session st reply answer.after answer.may;
        any_moment = λ told. subst (λ (j : Journal). LeavesOnly before after (HoldsPrefix j (journal_len p.journal))) (sym answer.logs)
            (to_prefix before after p.journal (journal_len p.journal) old p runs (read_leaves before after reads p.journal old.files runs.root runs.directory old.saving p.phase runs.stored told));
      }

  module _ (answer : Answer old.store session st (Append reply) store p) (moments : MayGain store.frame old.files before after) where
    abbrev pub entry : Entry
    entry = answer.logs.0

    next : answer.after.journal ≡ appended p.journal entry
    next = answer.logs.1

    spelling_of : Spells store.frame entry
    spelling_of = spells p answer.after entry store.frame answer.stands.plain next answer.logs.2

    -- at each moment
    pub leaves : IsTold before → LeavesOnly before after (Leaves (appended p.journal entry) (journal_len p.journal) old.files runs.root runs.directory)
    leaves told = append_leaves (two before after) p.journal entry store.frame old.files runs.root runs.directory old.saving p.phase false true answer.after spelling_of answer.stands.plain next moments runs.stored told

    leaves_all : IsTold before → LeavesOnly before after (HoldsPrefix answer.after.journal (journal_len p.journal))
    leaves_all told = subst (λ (j : Journal). LeavesOnly before after (HoldsPrefix j (journal_len p.journal))) (sym next)
        (to_prefix before after (appended p.journal entry) (journal_len p.journal) old p runs (leaves told))

    -- the entry was appended
    grows : (files : FilesHeld) → Appended old.files files store.frame before after → IsAnswered p before session st reply (record old { store = store; files = files; next = noted_by old session st reply store }) after
    grows files done =
        let stored = append_is_stored (two before after) p.journal entry store.frame old.files files runs.root runs.directory old.saving p.phase false true answer.after spelling_of answer.stands.plain next done.place done.told done.pages done.gains runs.stored in
        let rule = entry_rule entry spelling_of.0 in
        let long : length store.frame ≤ 1073741824 = omega (arith, ap (λ (l : List ℕ). length l) answer.logs.2, entry_length entry, rule.1) in
        let end : files.log.end ≡ old.files.log.end + length store.frame + 5 = ap (λ (f : FilesHeld). f.log.end) done.place in
        let short = runs.short in
        record {
          plain = answer.after;
          may = answer.may;
          runs = carried old before after p answer.after runs store files (noted_by old session st reply store) answer.stands (answer_rows p session st reply answer.after runs.stands.plain spelled runs.rows answer.may)
              (next_kept answer.after answer.stands answer.may) (answer_steady p session st reply answer.after served answer.may) (ap (λ (f : FilesHeld). f.reached) done.place) (ap (λ (f : FilesHeld). f.log.file) done.place)
              (omega (arith, end, long, short, ap journal_len next, journal_len-appended p.journal entry))
              (subst (λ (j : Journal). IsStored j files runs.root runs.directory old.saving p.phase after) (sym next) stored);
          sound = answer_sound p session st reply answer.after answer.may;
          any_moment = leaves_all;
        }

    -- the disk failed
    fails : (new : Logged) → new.down ≡ true → new.store ≡ store → IsLost p before session st DiskFault new after
    fails new down kept =
        let same = step_adds p session st reply answer.after entry answer.may next in
        record {
          fault = refl;
          down = down;
          stands = subst (λ (x : Plain). StandsFor new.store x) same (subst (λ (e : Held). StandsFor e answer.after) (sym kept) answer.stands);
          may = fault-appends p session st (omega (arith, journal_len-appended p.journal entry, ap journal_len next, ap (λ (x : Plain). journal_len x.journal) same));
          any_moment = λ told. subst (λ (x : Plain). LeavesOnly before after (HoldsPrefix x.journal (journal_len p.journal))) same (leaves_all told);
        }

-- ---- whatever plain state the store ran from

not_flip : (st : Statement) → is_save st ≡ false → st ≡ SaveFlip → ⊥
not_flip st served is = let no : true ≡ false = ap is_save (sym is) ∙ served in cc

module _ (old : Logged) (before after : View) (session : ℕ) (low : session < 17) (st : Statement) (served : is_save st ≡ false) (spelled : IsTrue (is_spelled st)) (store : Held) (reply : Reply) (some : Plain) (ran : Runs old before some) where
  pub serves_stays : ReadsOnly before after → after.faults ≡ before.faults → Answers old.store session st (Answered reply) store → Serves old before session st reply (record old { store = store; next = noted_by old session st reply store }) after
  serves_stays reads none answers = record {
    each = λ p runs. inl (stays old before after session low st served spelled store reply p runs reads (answers.each p runs.stands));
    keeps = λ p runs other told. to_root before after p.journal (journal_len p.journal) old p runs (read_leaves before after reads p.journal old.files runs.root runs.directory old.saving p.phase runs.stored told);
    selects = λ p runs flip. absurd (not_flip st served flip);
    told = reads.told;
    later = reads.faults;
    cause = λ fault. let answer = answers.each some ran.stands in absurd (answer_sound some session st reply answer.after answer.may fault);
    still = λ _. none;
  }

  module _ (answers : Answers old.store session st (Append reply) store) (moments : MayGain store.frame old.files before after) where
    keeps_root : (p : Plain) (runs : Runs old before p) → KeepsRoot old before p runs after
    keeps_root p runs told =
        let answer = answers.each p runs.stands in
        to_root before after (appended p.journal answer.logs.0) (journal_len p.journal) old p runs (leaves old before after session low st served spelled store reply p runs answer moments told)

    pub serves_grows : (files : FilesHeld) → Appended old.files files store.frame before after → Serves old before session st reply (record old { store = store; files = files; next = noted_by old session st reply store }) after
    serves_grows files done = record {
      each = λ p runs. inl (grows old before after session low st served spelled store reply p runs (answers.each p runs.stands) moments files done);
      keeps = λ p runs other. keeps_root p runs;
      selects = λ p runs flip. absurd (not_flip st served flip);
      told = done.told;
      later = let same = done.still in omega (arith, same);
      cause = λ fault. let answer = answers.each some ran.stands in absurd (answer_sound some session st reply answer.after answer.may fault);
      still = λ _. done.still;
    }

    pub serves_fails : (new : Logged) → new.down ≡ true → new.store ≡ store → NotAppended before after → Serves old before session st DiskFault new after
    serves_fails new down kept failed = record {
      each = λ p runs. inr (fails old before after session low st served spelled store reply p runs (answers.each p runs.stands) moments new down kept);
      keeps = λ p runs other. keeps_root p runs;
      selects = λ p runs flip. absurd (not_flip st served flip);
      told = failed.told;
      later = failed.later;
      cause = λ _. failed.rose;
      still = λ sound. absurd (sound refl);
    }

-- the store does its work in memory, then hands out the reply, and notes the next id
serves_handed : (old mid : Logged) (store : Held) (response : Response) (before after : View) (session : ℕ) (st : Statement) (reply : Reply) → session < 17 → is_save st ≡ false → IsTrue (is_spelled st) → (p : Plain) → Runs old before p → Answers old.store session st response store
    → HandsOut response (record old { store = store }) before reply mid after → Serves old before session st reply (with_noted mid old.store session st reply) after
serves_handed old mid store response before after session st reply low served spelled p runs answers (AtOnce said same reads none) =
    subst (λ (e : Logged). Serves old before session st reply (with_noted e old.store session st reply) after) (sym same)
    (serves_stays old before after session low st served spelled store reply p runs reads none (subst (λ (t : Response). Answers old.store session st t store) said answers))
serves_handed old mid store response before after session st reply low served spelled p runs answers (Logs said same moments done) =
    subst (λ (e : Logged). Serves old before session st reply (with_noted e old.store session st reply) after) (sym same)
    (serves_grows old before after session low st served spelled store reply p runs (subst (λ (t : Response). Answers old.store session st t store) said answers) moments mid.files done)
serves_handed old mid store response before after session st reply low served spelled p runs answers (Fails kept said fault gone moments failed) =
    subst (λ (r : Reply). Serves old before session st r (with_noted mid old.store session st reply) after) (sym fault)
    (serves_fails old before after session low st served spelled store kept p runs (subst (λ (t : Response). Answers old.store session st t store) said answers) moments (with_noted mid old.store session st reply) (ap (λ (e : Logged). e.down) gone) (ap (λ (e : Logged). e.store) gone) failed)

-- the whole of it
pub serves_concluded : (old new : Logged) (store : Held) (response : Response) (first : ℕ) (before after : View) (session : ℕ) (st : Statement) (reply : Reply) → session < 17 → is_save st ≡ false → IsTrue (is_spelled st) → (p : Plain) × Runs old before p → first ≡ old.store.counts.next_id
    → Answers old.store session st response store → Concludes response session st first (record old { store = store }) before reply new after → Serves old before session st reply new after
serves_concluded old new store response first before after session st reply low served spelled ran was answers done =
    let handed : Logged = done.handed in
    subst (λ (e : Logged). Serves old before session st reply e after) (sym (done.notes ∙ ap (λ (id : ℕ). record handed { next = noted handed.next session st reply id handed.store.counts.next_id }) was))
    (serves_handed old handed store response before after session st reply low served spelled ran.0 ran.1 answers done.hands)
