-- The savepoint in memory is the plain store's: how far it is, and a store that runs on with another phase.
use Rattle.std.proofs.Common.{◌≡◌, ℕ, ◌*◌, ◌≤◌, Bool, true, false, cond, [], length, Option, None, Some, refl, sym, ◌∙◌, ap, arith}
use Rattle.std.specs.Prelude.{nat_eq, IfSome, IfNone}
use Rattle.std.proofs.lemmas.Bool.{eqb-true}
use Rattle.ut_outside.specs.Disk.{View}
use Rattle.ut_redo.specs.Logs.{IsLogFile}
use Rattle.ut_plain.specs.declared.stage.Progress.{Progress}
use Rattle.ut_plain.specs.declared.stage.Progress.TheVariants as steps
use Rattle.ut_plain.specs.declared.statement.Statement.{Statement}
use Rattle.ut_plain.specs.declared.statement.Statement.TheVariants as statements
use Rattle.ut_plain.specs.declared.reply.Reply.{Reply}
use Rattle.ut_plain.specs.declared.reply.Reply.TheVariants as replies
use Rattle.ut_plain.specs.declared.reply.Refusal.TheVariants as refusals
use Rattle.ut_plain.specs.declared.reply.Why.{Why}
use Rattle.ut_plain.specs.declared.reply.Why.TheVariants as whys
use Rattle.ut_plain.specs.Journal.{Journal, journal_len}
use Rattle.ut_plain.specs.Capture.{Directory}
use Rattle.ut_plain.specs.Plain.{Plain, Phase, Idle, Writing, Sealed}
use Rattle.ut_plain.specs.Progress.{phase_of}
use Rattle.ut_plain.specs.Reached.{IsPlain, IsUnderWay}
use Rattle.ut_plain.specs.Refusals.{save_why}
use Rattle.ut_pages.specs.declared.root.Root.{Root}
use Rattle.ut_durable.specs.Calls.{FilesHeld}
use Rattle.ut_durable.specs.Journals.{place_of}
use Rattle.ut_durable.specs.Saving.{Saving, IsSaving, IsStored}
use Rattle.ut_store.specs.Held.{Held}
use Rattle.ut_store.specs.Stands.{StandsFor}
use Rattle.ut_nextid.specs.NextIds.{Noted, Keeps}
use Rattle.ut_engine.specs.Logged.{Logged}
use Rattle.ut_engine.specs.Runs.{Runs, IsEven}
use Rattle.ut_engine.specs.Savepoints.{progress_of, IsCounted, IsInTurn, IsOutOfTurn}

-- ---- how far it is

abbrev HasPhase : Option Saving → Phase → Type 0
HasPhase saving phase = (captured : ℕ) × (image : Directory) × (phase ≡ phase_of (progress_of saving) captured image)

has_phase : (j : Journal) (f : FilesHeld) (selected : Root) (disk : View) (saving : Option Saving) (phase : Phase) → IsSaving j f selected disk saving phase → HasPhase saving phase
has_phase j f selected disk None Idle is = (0, record { tables = []; stages = [] }, refl)
has_phase j f selected disk None (Writing b p q d) is = absurd is
has_phase j f selected disk None (Sealed b q d) is = absurd is
has_phase j f selected disk (Some s) Idle is = absurd is
has_phase j f selected disk (Some s) (Writing b p q d) is =
    (b, d, (λ i. Writing b (is.done i) (is.pages i) d) ∙ sym (ap (λ (x : Bool). phase_of (cond x (steps.Sealed (length s.planned)) (steps.Writing s.done (length s.planned))) b d) is.unsealed))
has_phase j f selected disk (Some s) (Sealed b q d) is =
    (b, d, (λ i. Sealed b (is.pages i) d) ∙ sym (ap (λ (x : Bool). phase_of (cond x (steps.Sealed (length s.planned)) (steps.Writing s.done (length s.planned))) b d) is.sealed))

module _ (e : Logged) (disk : View) (p : Plain) (runs : Runs e disk p) where
  -- what is found of the savepoint in memory is what the phase says
  why_told : (st : Statement) (why : Option Why) → ((captured : ℕ) (image : Directory) → save_why (phase_of (progress_of e.saving) captured image) st ≡ why) → save_why p.phase st ≡ why
  why_told st why found =
      let has = has_phase p.journal e.files runs.root disk e.saving p.phase runs.stored.under_way in
      ap (λ (phase : Phase). save_why phase st) has.2 ∙ found has.0 has.1

  pub is_counted : IsCounted e.saving
  is_counted = by e.saving p.phase runs.stored.under_way runs.stands.plain.saving
    where
      by : (saving : Option Saving) (phase : Phase) → IsSaving p.journal e.files runs.root disk saving phase → IsUnderWay p.journal phase → IsCounted saving
      by None phase is under = tt
      by (Some s) Idle is under = absurd is
      by (Some s) (Writing b n q d) is under = let few = is.few in (λ _. few, omega (arith, under.numbered, is.pages))
      by (Some s) (Sealed b q d) is under = (λ unsealed. absurd (differ s.sealed unsealed is.sealed), omega (arith, under.numbered, is.pages))
        where
          differ : (b : Bool) → b ≡ false → b ≡ true → ⊥
          differ true f t = cc
          differ false f t = cc

pub out_of_turn : (e : Logged) (disk : View) (st : Statement) (reply : Reply) (out : IsOutOfTurn e.saving st reply) (p : Plain) → Runs e disk p → save_why p.phase st ≡ Some out.why
out_of_turn e disk st reply out p runs = why_told e disk p runs st (Some out.why) out.each

pub in_turn : (e : Logged) (disk : View) (st : Statement) → IsInTurn e.saving st → (p : Plain) → Runs e disk p → save_why p.phase st ≡ None
in_turn e disk st passes p runs = why_told e disk p runs st None passes

-- an answer that was found by the savepoint in memory
why_found : (saving : Option Saving) (st : Statement) (progress : Progress) (result why : Option Why) → progress ≡ progress_of saving → ((captured : ℕ) (image : Directory) → result ≡ save_why (phase_of progress captured image) st) → result ≡ why
    → (captured : ℕ) (image : Directory) → save_why (phase_of (progress_of saving) captured image) st ≡ why
why_found saving st progress result why at told is captured image = ap (λ (x : Progress). save_why (phase_of x captured image) st) (sym at) ∙ sym (told captured image) ∙ is

pub why_refused : (saving : Option Saving) (st : Statement) (progress : Progress) (found : Option Why) → progress ≡ progress_of saving → ((captured : ℕ) (image : Directory) → found ≡ save_why (phase_of progress captured image) st)
    → IfSome found (λ why. IsOutOfTurn saving st (replies.Refused (refusals.State why)))
why_refused saving st progress None at told = tt
why_refused saving st progress (Some why) at told = record { why = why; says = refl; each = why_found saving st progress (Some why) (Some why) at told refl }

pub why_passed : (saving : Option Saving) (st : Statement) (progress : Progress) (found : Option Why) → progress ≡ progress_of saving → ((captured : ℕ) (image : Directory) → found ≡ save_why (phase_of progress captured image) st)
    → IfNone found (IsInTurn saving st)
why_passed saving st progress None at told = why_found saving st progress None None at told refl
why_passed saving st progress (Some why) at told = tt

-- ---- which phase lets a statement pass

abbrev IsWritingNow : Option Saving → Phase → Type 0
IsWritingNow saving phase = (s : Saving) × (saving ≡ Some s) × (b : ℕ) × (n : ℕ) × (q : ℕ) × (c : Directory) × (phase ≡ Writing b n q c)

abbrev IsSealedNow : Option Saving → Phase → Type 0
IsSealedNow saving phase = (s : Saving) × (saving ≡ Some s) × (b : ℕ) × (q : ℕ) × (c : Directory) × (phase ≡ Sealed b q c)

else_none : (b : Bool) (why : Why) → cond b None (Some why) ≡ None → b ≡ true
else_none true why is = refl
else_none false why is = cc

module _ (j : Journal) (f : FilesHeld) (selected : Root) (disk : View) where
  pub writing_now : (n : ℕ) (saving : Option Saving) (phase : Phase) → IsSaving j f selected disk saving phase → save_why phase (statements.SaveStep n) ≡ None → IsWritingNow saving phase
  writing_now n None Idle is none = cc
  writing_now n None (Writing b p q d) is none = absurd is
  writing_now n None (Sealed b q d) is none = absurd is
  writing_now n (Some s) Idle is none = absurd is
  writing_now n (Some s) (Writing b p q d) is none = (s, refl, b, p, q, d, refl)
  writing_now n (Some s) (Sealed b q d) is none = cc

  pub all_written : (saving : Option Saving) (phase : Phase) → IsSaving j f selected disk saving phase → save_why phase statements.SaveSeal ≡ None
      → (s : Saving) × (saving ≡ Some s) × (b : ℕ) × (q : ℕ) × (c : Directory) × (phase ≡ Writing b q q c) × (s.done ≡ length s.planned)
  all_written None Idle is none = cc
  all_written None (Writing b p q d) is none = absurd is
  all_written None (Sealed b q d) is none = absurd is
  all_written (Some s) Idle is none = absurd is
  all_written (Some s) (Writing b p q d) is none =
      let all : p ≡ q = eqb-true p q (else_none (nat_eq p q) whys.Unwritten none) in
      (s, refl, b, q, d, ap (λ (n : ℕ). Writing b n q d) all, sym is.done ∙ all ∙ is.pages)
  all_written (Some s) (Sealed b q d) is none = cc

  pub sealed_now : (saving : Option Saving) (phase : Phase) → IsSaving j f selected disk saving phase → save_why phase statements.SaveFlip ≡ None → IsSealedNow saving phase
  sealed_now None Idle is none = cc
  sealed_now None (Writing b p q d) is none = absurd is
  sealed_now None (Sealed b q d) is none = absurd is
  sealed_now (Some s) Idle is none = absurd is
  sealed_now (Some s) (Writing b p q d) is none = cc
  sealed_now (Some s) (Sealed b q d) is none = (s, refl, b, q, d, refl)

-- ---- a store that runs on in another phase

abbrev pub in_phase : Plain → Phase → ℕ → Plain
in_phase p phase pages = record p { phase = phase; root_pages = pages }

pub stands_in : (e : Held) (p : Plain) (phase : Phase) (pages : ℕ) → IsPlain (in_phase p phase pages) → StandsFor e p → StandsFor e (in_phase p phase pages)
stands_in e p phase pages plain stands =
    let c = stands.counts in
    let s = stands.seats in
    let r = stands.rows in
    record {
      plain = plain;
      counts = record { tables = c.tables; commits = c.commits; merges = c.merges; entries = c.entries; next_id = c.next_id; rows_limit = c.rows_limit; pending = c.pending };
      seats = record { count = s.count; snapshots = s.snapshots; payloads = s.payloads; nobody = s.nobody };
      rows = record {
        held = r.held;
        places = r.places;
        dropped = r.dropped;
        free = r.free;
        exact = r.exact;
        transactions = r.transactions;
        dead = r.dead;
        started = r.started;
        stages = r.stages;
        columns = r.columns;
        merging = r.merging;
      };
    }

-- the journal and the sessions stay
keeps_in : (n : Noted) (p : Plain) (phase : Phase) (pages : ℕ) → Keeps n p → Keeps n (in_phase p phase pages)
keeps_in n p phase pages keeps = record { seats = keeps.seats; next = keeps.next; own = keeps.own }

module _ (old : Logged) (before after : View) (p : Plain) (runs : Runs old before p) where
  pub runs_in : (files : FilesHeld) (saving : Option Saving) (root : Root) (d : Directory) (phase : Phase) (pages : ℕ) → IsPlain (in_phase p phase pages) → IsStored p.journal files root d saving phase after → IsEven saving
      → IsLogFile files.log.file → files.log.end ≤ 2147483648 * journal_len p.journal → pages ≡ length files.reached
      → Runs (record old { files = files; begins = (place_of root).file; saving = saving }) after (in_phase p phase pages)
  runs_in files saving root d phase pages plain stored even log short reached = record {
    up = runs.up;
    stands = stands_in old.store p phase pages plain runs.stands;
    root = root;
    directory = d;
    stored = stored;
    begins = refl;
    even = even;
    log = log;
    short = short;
    measure = runs.measure;
    reached = reached;
    rows = runs.rows;
    next = keeps_in old.next p phase pages runs.next;
  }

  -- with the same selected root
  pub runs_on : (files : FilesHeld) (saving : Option Saving) (phase : Phase) → IsPlain (in_phase p phase p.root_pages) → IsStored p.journal files runs.root runs.directory saving phase after → IsEven saving
      → IsLogFile files.log.file → files.log.end ≤ 2147483648 * journal_len p.journal → files.reached ≡ old.files.reached
      → Runs (record old { files = files; saving = saving }) after (in_phase p phase p.root_pages)
  runs_on files saving phase plain stored even log short reached = record {
    up = runs.up;
    stands = stands_in old.store p phase p.root_pages plain runs.stands;
    root = runs.root;
    directory = runs.directory;
    stored = stored;
    begins = runs.begins;
    even = even;
    log = log;
    short = short;
    measure = runs.measure;
    reached = runs.reached ∙ ap length (sym reached);
    rows = runs.rows;
    next = keeps_in old.next p phase p.root_pages runs.next;
  }
