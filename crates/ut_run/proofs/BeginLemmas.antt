-- How a run begins.
use Rattle.std.proofs.Common.{ℕ, inl, inr, ◌≡◌, ◌-◌, refl, sym, ap, ◌∙◌, subst, arith, IsTrue, length, Result, Ok, Err}
use Rattle.std.specs.Prelude.{take, drop, IsErrOf, IfOk, IfErr}
use Rattle.ut_outside.specs.Faults.{Rose}
use Rattle.ut_outside.specs.Disk.{View, Image, IsTold}
use Rattle.ut_outside.specs.Run.{Always, LeavesOnly, ReadsOnly}
use Rattle.ut_outside.proofs.RunLemmas.{reads_start}
use Rattle.ut_pages.specs.Layout.{IsMade}
use Rattle.ut_plain.specs.Journal.{Journal, empty_journal, journal_len, after_all, since}
use Rattle.ut_plain.specs.Plain.{no_image, new_store}
use Rattle.ut_durable.specs.Bytes.{image_pages}
use Rattle.ut_durable.specs.Journals.{HoldsJournal, HoldsPrefix}
use Rattle.ut_durable.proofs.JournalLemmas.{part-all}
use Rattle.ut_engine.specs.Logged.{Logged}
use Rattle.ut_engine.specs.declared.error.OpenError.{OpenError}
use Rattle.ut_engine.specs.declared.error.OpenError.TheVariants as errors
use Rattle.ut_engine.specs.Opening.{MayOnlyRead}
use Rattle.ut_engine.specs.Runs.{Runs, Opens, opening_of, NotMadeOrEmpty}
use Rattle.ut_engine.specs.Lent.{Lent}
use Rattle.ut_engine.specs.Beginning.{disk_left, store_or_cause, Makes, Reopens}
use Rattle.ut_engine.specs.declared.unopened.Unopened.{Unopened}
use Rattle.ut_run.specs.declared.start.Start.{Start}
use Rattle.ut_run.specs.declared.start.Start.TheVariants.{New, Open}
use Rattle.ut_run.specs.Origin.{Origin, fresh, IsSaid, Begins}
use Rattle.ut_run.specs.Keeping.{SinceEntry, HoldsRun, NothingPending}
use Rattle.ut_run.specs.declared.report.Status.{Status}
use Rattle.ut_run.specs.declared.report.Status.TheVariants.{NoStore, Exists, DiskFault, Damaged, Memory}
use Rattle.ut_run.specs.Serving.{LosesNothing}
use Rattle.ut_run.specs.Beginning.{Begun, NotBegun, OpenStatus}

-- a journal behind its own base is itself
since_base : (j : Journal) → since j j.base.length ≡ j
since_base j =
    let none : j.base.length - j.base.length ≡ 0 = omega arith in
    ap (λ (n : ℕ). record { base = after_all j.base (take n j.entries); entries = drop n j.entries }) none

-- a whole journal is a prefix of itself
whole_of : (j : Journal) (c : Image) → HoldsJournal j c → HoldsPrefix j (journal_len j) c
whole_of j c h = record {
  from = j.base.length;
  count = journal_len j;
  begins = omega arith;
  within = omega arith;
  no_fewer = omega arith;
  no_more = omega arith;
  holds = subst (λ (k : Journal). HoldsJournal k c) (sym (part-all j j.base.length (omega arith) (omega arith) ∙ since_base j)) h;
}

-- the files hold the journal that they say
pub said_journal : (o : Origin) (c : Image) → IsSaid o c → HoldsJournal o.journal c
said_journal o c s = record { directory = s.directory; end = s.says.end; reading = s.says.reading }

-- while a store is made
new_run : (c : Image) → NotMadeOrEmpty c → HoldsRun New empty_journal (journal_len empty_journal) c
new_run c (inl unmade) = inr unmade
new_run c (inr h) = inl (whole_of empty_journal c h)

none_made : (entry : View) → (IsMade entry.seen.pages → ⊥) → NothingPending entry → Always entry (λ c. IsMade c.pages → ⊥)
none_made entry unmade pends c h made = unmade (subst (λ (i : Image). IsMade i.pages) (pends c h) made)

pub since_made : (entry now : View) → (IsTold entry → Always entry (λ c. IsMade c.pages → ⊥) → LeavesOnly entry now NotMadeOrEmpty) → IsTold entry → (first : Origin) → Begins New first entry.seen → NothingPending entry
    → SinceEntry New entry now first.journal first.journal
since_made entry now leaves told first begins pends =
    let l = leaves told (none_made entry begins.1 pends) in
    record { past = l.later; holds = λ c h. subst (λ (o : Origin). HoldsRun New o.journal (journal_len o.journal) c) (sym begins.0) (new_run c (l.each c h)) }

pub since_opened : (entry now : View) → ReadsOnly entry now → (first : Journal) → HoldsJournal first entry.seen → NothingPending entry → SinceEntry Open entry now first first
since_opened entry now reads first holds pends =
    let l = reads.any_moment in
    record { past = l.later; holds = λ c h. subst (λ (i : Image). HoldsPrefix first (journal_len first) i) (sym (pends c (l.each c h))) (whole_of first entry.seen holds) }

pub begun_new : (rows : ℕ) (entry now : View) (e : Logged) → now.told ≡ entry.told → Runs e now (new_store (no_image image_pages) rows) → (IsTold entry → IsMade entry.seen.pages → ⊥)
    → (IsTold entry → Always entry (λ c. IsMade c.pages → ⊥) → LeavesOnly entry now NotMadeOrEmpty) → now.faults ≡ entry.faults → Begun New rows entry now e
begun_new rows entry now e same runs unmade leaves no_fault = record {
  no_fault = no_fault;
  first = fresh;
  runs = runs;
  begins = λ told. (refl, unmade told);
  kept = λ told. record {
    told = same ∙ told;
    no_more = omega arith;
    acknowledged = tt;
    since_entry = since_made entry now leaves told fresh (refl, unmade told);
  };
}

pub begun_open : (rows : ℕ) (entry now : View) (e : Logged) → Opens e rows entry now → ReadsOnly entry now → now.faults ≡ entry.faults → Begun Open rows entry now e
begun_open rows entry now e opens reads no_fault = record {
  no_fault = no_fault;
  first = record { journal = opens.journal; opening = opening_of opens.directory (length opens.reached) };
  runs = opens.runs;
  begins = said;
  kept = λ told. record {
    told = subst IsTrue (sym reads.told) told;
    no_more = omega arith;
    acknowledged = tt;
    since_entry = since_opened entry now reads opens.journal (said_journal _ _ (said told));
  };
}
  where
    said : IsTold entry → IsSaid (record { journal = opens.journal; opening = opening_of opens.directory (length opens.reached) }) entry.seen
    said told = record { directory = opens.directory; reached = opens.reached; says = opens.said told; opening = refl }

-- ---- where no store could be made or opened

pub loses_opened : (entry now : View) (status : Status) → ReadsOnly entry now → LosesNothing Open entry now status
loses_opened entry now status reads = record {
  reads = λ told may. reads;
  unbegun = λ memory. reads;
  since_entry = λ told first begins pends c h. (since_opened entry now reads first.journal (said_journal first entry.seen begins) pends).holds c h;
}

pub loses_made : (entry now : View) (status : Status) → (IsTold entry → IsMade entry.seen.pages → ReadsOnly entry now) → (status ≡ Memory → ReadsOnly entry now) → (IsTold entry → Always entry (λ c. IsMade c.pages → ⊥) → LeavesOnly entry now NotMadeOrEmpty) → LosesNothing New entry now status
loses_made entry now status kept unbegun leaves = record {
  reads = kept;
  unbegun = unbegun;
  since_entry = λ told first begins pends c h. (since_made entry now leaves told first begins pends).holds c h;
}

-- nothing was done
pub loses_untouched : (start : Start) (v : View) (status : Status) → ((c : Image) → v.crash_states_since v.moment c → v.crash_states c) → LosesNothing start v v status
loses_untouched Open v status only = loses_opened v v status (reads_start v only)
loses_untouched New v status only = record {
  reads = λ told made. reads_start v only;
  unbegun = λ memory. reads_start v only;
  since_entry = λ told first begins pends c h. inr (λ made. begins.1 (subst (λ (i : Image). IsMade i.pages) (pends c (only c h)) made));
}

-- an answer that is this error
abbrev failed : OpenError → Result Logged OpenError
failed error = Err error

-- why no store was made
pub not_made : (entry now : View) (error : OpenError) (status : Status) → OpenStatus error status → (IsErrOf (failed error) errors.Made → IsTold entry → IsMade entry.seen.pages) → (IsErrOf (failed error) errors.Disk → Rose entry.faults now.faults)
    → (IsErrOf (failed error) errors.NotMade → ⊥) × (IsErrOf (failed error) errors.Damaged → ⊥) → (MayOnlyRead (failed error) entry → ReadsOnly entry now) → (IsTold entry → Always entry (λ c. IsMade c.pages → ⊥) → LeavesOnly entry now NotMadeOrEmpty)
    → NotBegun New entry now status
not_made entry now errors.Made status is made disk others reads leaves =
    subst (λ (s : Status). NotBegun New entry now s) (sym is) (record { early = tt; fits = λ told. (refl, made refl told); cause = λ e. cc; disk = loses_made entry now Exists (λ told is. reads (inr (told, is))) (λ e. cc) leaves })
not_made entry now errors.NotMade status is made disk others reads leaves = absurd (others.0 refl)
not_made entry now errors.Damaged status is made disk others reads leaves = absurd (others.1 refl)
not_made entry now errors.Disk status is made disk others reads leaves =
    subst (λ (s : Status). NotBegun New entry now s) (sym is) (record { early = tt; fits = λ told. tt; cause = λ e. disk refl; disk = loses_made entry now DiskFault (λ told is. reads (inr (told, is))) (λ e. cc) leaves })
not_made entry now errors.Memory status is made disk others reads leaves =
    subst (λ (s : Status). NotBegun New entry now s) (sym is) (record { early = tt; fits = λ told. tt; cause = λ e. cc; disk = loses_made entry now Memory (λ told is. reads (inr (told, is))) (λ e. reads (inl refl)) leaves })

-- why none was opened
pub not_opened : (entry now : View) (error : OpenError) (status : Status) → OpenStatus error status → (IsErrOf (failed error) errors.NotMade → IsTold entry → IsMade entry.seen.pages → ⊥) → (IsErrOf (failed error) errors.Damaged → IsTold entry → IsMade entry.seen.pages × ((j : Journal) → HoldsJournal j entry.seen → ⊥))
    → (IsErrOf (failed error) errors.Disk → Rose entry.faults now.faults) → (IsErrOf (failed error) errors.Made → ⊥) → ReadsOnly entry now → NotBegun Open entry now status
not_opened entry now errors.Made status is none damaged disk others reads = absurd (others refl)
not_opened entry now errors.NotMade status is none damaged disk others reads =
    subst (λ (s : Status). NotBegun Open entry now s) (sym is) (record { early = tt; fits = λ told. (refl, none refl told); cause = λ e. cc; disk = loses_opened entry now NoStore reads })
not_opened entry now errors.Damaged status is none damaged disk others reads =
    subst (λ (s : Status). NotBegun Open entry now s) (sym is) (record { early = tt; fits = λ told. (let d = damaged refl told in (refl, d.0, d.1)); cause = λ e. cc; disk = loses_opened entry now Damaged reads })
not_opened entry now errors.Disk status is none damaged disk others reads =
    subst (λ (s : Status). NotBegun Open entry now s) (sym is) (record { early = tt; fits = λ told. tt; cause = λ e. disk refl; disk = loses_opened entry now DiskFault reads })
not_opened entry now errors.Memory status is none damaged disk others reads =
    subst (λ (s : Status). NotBegun Open entry now s) (sym is) (record { early = tt; fits = λ told. tt; cause = λ e. cc; disk = loses_opened entry now Memory reads })

-- ---- the engine that was made or opened, or why there is none

module _ {D : Type 0} (view : D → View) (rows : ℕ) (entry : View) where
  pub begun_made : (answer : Result (Lent D) (Unopened D)) → Makes rows entry (view (disk_left answer)) (store_or_cause answer) → IfOk answer (λ e. Begun New rows entry (view e.disk) e.store)
  begun_made (Ok e) made = begun_new rows entry (view e.disk) e.store made.told made.new.runs made.new.unmade made.any_moment made.no_fault
  begun_made (Err u) made = tt

  pub begun_opened : (answer : Result (Lent D) (Unopened D)) → Reopens rows entry (view (disk_left answer)) (store_or_cause answer) → IfOk answer (λ e. Begun Open rows entry (view e.disk) e.store)
  begun_opened (Ok e) opened = begun_open rows entry (view e.disk) e.store opened.opens opened.reads opened.no_fault
  begun_opened (Err u) opened = tt

  pub not_begun_made : (answer : Result (Lent D) (Unopened D)) → Makes rows entry (view (disk_left answer)) (store_or_cause answer)
      → IfErr answer (λ u. (status : Status) → OpenStatus u.cause status → NotBegun New entry (view u.disk.now) status)
  not_begun_made (Ok e) made = tt
  not_begun_made (Err u) made = λ status is. not_made entry (view u.disk.now) u.cause status is made.made made.cause made.others made.reads made.any_moment

  pub not_begun_opened : (answer : Result (Lent D) (Unopened D)) → Reopens rows entry (view (disk_left answer)) (store_or_cause answer)
      → IfErr answer (λ u. (status : Status) → OpenStatus u.cause status → NotBegun Open entry (view u.disk.now) status)
  not_begun_opened (Ok e) opened = tt
  not_begun_opened (Err u) opened = λ status is. not_opened entry (view u.disk.now) u.cause status is opened.not_made opened.damaged opened.cause opened.others opened.reads
