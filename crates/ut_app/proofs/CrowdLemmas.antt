-- What a run of the crowd comes to, at each of its ends.
use Rattle.std.proofs.Common.{inl, inr, ℕ, suc, ◌≡◌, ◌≤◌, ◌⊎◌, Bool, true, false, cond, List, [], ◌∷◌, ◌++◌, length, Option, None, Result, Ok, Err, slice_index_or, ◌-◌, refl, sym, ap, ◌∙◌, subst, arith}
use Rattle.std.proofs.lemmas.List.{length-append}
use Rattle.std.specs.Prelude.{IsTrue, OnErr}
use Rattle.ut_outside.specs.Disk.{View, Image, IsTold}
use Rattle.ut_outside.specs.Faults.{Rose}
use Rattle.ut_outside.specs.declared.ack.Ack.{Ack}
use Rattle.ut_plain.specs.Journal.{Journal, journal_len}
use Rattle.ut_plain.specs.Plain.{Plain}
use Rattle.ut_durable.specs.Journals.{HoldsPrefix}
use Rattle.ut_engine.specs.Logged.{Logged}
use Rattle.ut_words.specs.declared.plan.Plan.{Plan}
use Rattle.ut_course.specs.Keeping.{lengths_of, Holding}
use Rattle.ut_course.specs.Course.{Course, Goes, Failed}
use Rattle.ut_course.proofs.KeepLemmas.{runs_whole, no_shorter}
use Rattle.ut_crowd.specs.declared.book.Turn.{Turn}
use Rattle.ut_crowd.specs.Book.{lines_in, answers_in, acks_in}
use Rattle.ut_crowd.specs.Crowding.{Crowded}
use Rattle.ut_run.specs.declared.start.Start.{Start}
use Rattle.ut_run.specs.declared.report.Status.{Status}
use Rattle.ut_run.specs.declared.report.Status.TheVariants.{Done, Usage, NoStore, Exists, ReadFault, WriteFault, DiskFault, Damaged, Memory, TooLong}
use Rattle.ut_run.specs.World.{World}
use Rattle.ut_run.specs.Plans.{start_of}
use Rattle.ut_run.specs.Script.{FitsInput}
use Rattle.ut_run.specs.Origin.{opened}
use Rattle.ut_run.specs.Keeping.{Kept, SinceEntry, HoldsRun}
use Rattle.ut_run.specs.Beginning.{Begun, NotBegun}
use Rattle.ut_app.specs.Benching.{sink_of}
use Rattle.ut_run.specs.Ends.{FitsStore, HasRisen, IsEarly, IsLate}
use Rattle.ut_app.specs.Crowds as crowds
use Rattle.ut_app.specs.Crowds.{IsRead, IsUnrun, IsUnread, EndsBook, TellsEnd, IsFault, last_journal, last_length, Booked, RanCrowd, CrowdRun, Early, Halted, Late}
use Rattle.ut_run.proofs.KeepLemmas.{run_longer, run_holds}
use Rattle.ut_script.specs.declared.lines.LineError.TheVariants as failed
use Rattle.ut_script.specs.Lines.{Reading, NextLine, StepsLine, Counts}
use Rattle.ut_run.specs.Script.{all_fit, IsReading}
use Rattle.ut_run.proofs.EndsLemmas.{fit_more, reading-start, reading-more, reading-done, reading-long, fits_cut}
use Rattle.ut_run.proofs.RunLemmas.{late_fits, completes, early_cut, early_cause, streams_stay}

-- ---- reading

-- so many lines were read, the rest of the input is left, and no fault was counted
pub record IsReadingAll (limit : ℕ) (first : Option (List ℕ)) (script : List (List ℕ)) (reader : Reading) (left : Option (List ℕ)) (reads reads_now : ℕ) : Type 0 where
  pub few : length script ≤ limit
  pub fit : all_fit script ≡ true
  pub reading : IsReading first script reader.held left
  pub no_error : reader.failed ≡ None
  pub number : reader.number ≡ length script
  pub limit_is : reader.limit ≡ limit
  pub still : reads_now ≡ reads

pub read_start : (limit : ℕ) (first : Option (List ℕ)) (reader : Reading) (reads : ℕ) → reader ≡ record { held = []; line = []; number = 0; limit = limit; failed = None } → IsReadingAll limit first [] reader first reads reads
read_start limit first reader reads is = record {
  few = omega arith;
  fit = refl;
  reading = reading-start first reader.held (ap (λ (r : Reading). r.held) is);
  no_error = ap (λ (r : Reading). r.failed) is;
  number = ap (λ (r : Reading). r.number) is;
  limit_is = ap (λ (r : Reading). r.limit) is;
  still = refl;
}

pub read_more : (limit : ℕ) (first : Option (List ℕ)) (script : List (List ℕ)) (old new : Reading) (left left2 : Option (List ℕ)) (reads was now : ℕ) → IsReadingAll limit first script old left reads was → NextLine old left (Ok true) new left2 → StepsLine old left new left2 → Counts old (Ok true) new → now ≡ was
    → IsReadingAll limit first (script ++ new.line ∷ []) new left2 reads now
read_more limit first script old new left left2 reads was now r n m c same = record {
  few = let a = c.number in let b = c.few in let d = c.limit in let e = r.number in let f = r.limit_is in omega (arith, a, b, d, e, f, length-append script (new.line ∷ []));
  fit = fit_more script new.line r.fit c.short;
  reading = reading-more first script old new left left2 r.reading n m;
  no_error = c.failed;
  number = let a = c.number in let e = r.number in omega (arith, a, e, length-append script (new.line ∷ []));
  limit_is = c.limit ∙ r.limit_is;
  still = same ∙ r.still;
}

pub read_done : (limit : ℕ) (first : Option (List ℕ)) (script : List (List ℕ)) (old new : Reading) (left left2 : Option (List ℕ)) (reads was : ℕ) → IsReadingAll limit first script old left reads was → NextLine old left (Ok false) new left2 → IsRead limit first left2 script
read_done limit first script old new left left2 reads was r n =
    let e = reading-done limit first script old new left left2 r.few r.fit r.reading n in
    record { few = r.few; fit = r.fit; input = e.input; fits = e.fits }

pub read_long : (limit : ℕ) (first : Option (List ℕ)) (script : List (List ℕ)) (old new : Reading) (left left2 : Option (List ℕ)) (reads was now : ℕ) → IsReadingAll limit first script old left reads was → NextLine old left (Err failed.TooLong) new left2 → IsUnread limit first TooLong reads now
read_long limit first script old new left left2 reads was now r n =
    let e = reading-long limit first script old new left left2 r.limit_is r.number r.few r.reading n in
    record { unrun = tt; fits = e.fits; cause = λ k. cc }

pub read_failed : (limit : ℕ) (first : Option (List ℕ)) (script : List (List ℕ)) (old : Reading) (left : Option (List ℕ)) (reads was now : ℕ) → IsReadingAll limit first script old left reads was → Rose was now → IsUnread limit first ReadFault reads now
read_failed limit first script old left reads was now r rose =
    record { unrun = tt; fits = fits_cut limit ReadFault first tt; cause = λ k. let a = r.still in omega (arith, a, rose) }

-- ---- the store couldn't begin

pub crowd_early : (plan : Plan) (before : World) (disk : View) (status said : Status) (lines : ℕ) (acks : List Ack) (journal : ℕ) → said ≡ status → lines ≡ 0 → acks ≡ [] → journal ≡ 0 → NotBegun (start_of plan) before.disk disk status
    → CrowdRun plan before (record before { disk = disk }) said lines acks journal
crowd_early plan before disk status said lines acks journal is none no_acks no_journal n =
    let after : World = record before { disk = disk } in
    let input = fits_cut plan.lines status before.source (early_cut status n.early) in
    let cause = early_cause status before after n.early n.cause in
    let taken : status ≡ Usage → ⊥ = λ e. subst IsEarly e n.early in
    subst (λ (s : Status). CrowdRun plan before after s lines acks journal) (sym is) (record {
      ended = Early n.early (record { none = none; no_acks = no_acks; no_journal = no_journal; streams = streams_stay before disk; disk = n.disk });
      store = n.fits;
      input = input;
      cause = cause;
      still = λ e. absurd (subst IsEarly e n.early);
      taken = taken;
      complete = completes plan before after status n.fits input cause taken;
    })

-- ---- the lines weren't read, or there was no memory for the crowd

unrun_late : (status : Status) → IsUnrun status → IsLate status
unrun_late Done u = absurd u
unrun_late Usage u = absurd u
unrun_late NoStore u = absurd u
unrun_late Exists u = absurd u
unrun_late ReadFault u = tt
unrun_late WriteFault u = absurd u
unrun_late DiskFault u = absurd u
unrun_late Damaged u = absurd u
unrun_late Memory u = tt
unrun_late TooLong u = tt

unrun_cause : (status : Status) (before after : World) → IsUnrun status → (status ≡ ReadFault → Rose before.reads after.reads) → HasRisen status before after
unrun_cause Done before after u h = absurd u
unrun_cause Usage before after u h = absurd u
unrun_cause NoStore before after u h = absurd u
unrun_cause Exists before after u h = absurd u
unrun_cause ReadFault before after u h = h refl
unrun_cause WriteFault before after u h = absurd u
unrun_cause DiskFault before after u h = absurd u
unrun_cause Damaged before after u h = absurd u
unrun_cause Memory before after u h = tt
unrun_cause TooLong before after u h = tt

pub crowd_unrun : (plan : Plan) (before after : World) (status said : Status) (lines : ℕ) (acks : List Ack) (journal : ℕ) (store : Logged) → said ≡ status → lines ≡ 0 → acks ≡ [] → journal ≡ store.store.counts.entries → Begun (start_of plan) plan.rows before.disk after.disk store
    → IsUnread plan.lines before.source status before.reads after.reads → sink_of after ≡ sink_of before → CrowdRun plan before after said lines acks journal
crowd_unrun plan before after status said lines acks journal store is none no_acks length begun unread sink =
    let fits : IsTold before.disk → FitsStore status (start_of plan) before.disk.seen = λ told. late_fits status (start_of plan) before.disk.seen (unrun_late status unread.unrun) (begun.first, begun.begins told) in
    let cause = unrun_cause status before after unread.unrun unread.cause in
    let taken : status ≡ Usage → ⊥ = λ e. subst IsUnrun e unread.unrun in
    subst (λ (s : Status). CrowdRun plan before after s lines acks journal) (sym is) (record {
      ended = Halted unread.unrun (record {
        none = none;
        no_acks = no_acks;
        sink = sink;
        first = begun.first;
        begins = begun.begins;
        length_is = length ∙ begun.runs.stands.counts.entries;
        kept = begun.kept;
        stays = runs_whole store after.disk (opened begun.first plan.rows) begun.runs;
      });
      store = fits;
      input = unread.fits;
      cause = cause;
      still = λ e. absurd (subst IsUnrun e unread.unrun);
      taken = taken;
      complete = completes plan before after status fits unread.fits cause taken;
    })

-- there was no memory for a crowd
pub lacks_crowd : (limit : ℕ) (source : Option (List ℕ)) (reads reads_now : ℕ) → IsUnread limit source Memory reads reads_now
lacks_crowd limit source reads reads_now = record { unrun = tt; fits = fits_cut limit Memory source tt; cause = λ e. cc }

-- ---- turns were answered

kept_of : (start : Start) (entry mid now : View) (first j : Journal) (acks : List Ack) → Kept start entry mid first first [] → Holding mid now first j acks → Kept start entry now first j acks
kept_of start entry mid now first j acks k h = record {
  told = h.told;
  no_more = no_shorter first j h.grows;
  acknowledged = h.acknowledged;
  since_entry = λ nothing.
      let s = k.since_entry nothing in
      record { past = let e = h.since.later in omega (arith, e, s.past); holds = λ c left. by s c (h.since.before entry.moment c s.past left) };
}
  where
    by : SinceEntry start entry mid first first → (c : Image) → mid.crash_states_since entry.moment c ⊎ HoldsPrefix j (journal_len first) c → HoldsRun start j (journal_len first) c
    by s c (inl was) = run_longer start first j (journal_len first) c h.grows (s.holds c was)
    by s c (inr here) = run_holds start j (journal_len first) c here

last_is : (book : List Turn) (told : List ℕ) (n : ℕ) → lengths_of (acks_in book) ≡ told ++ n ∷ [] → last_journal book ≡ n
last_is [] [] n e = cc
last_is [] (m ∷ told) n e = cc
last_is (t ∷ []) [] n e = cc
last_is (t ∷ []) (m ∷ []) n e = cc
last_is (t ∷ []) (m ∷ k ∷ told) n e = cc
last_is (t ∷ u ∷ book) [] n e = cc
last_is (t ∷ u ∷ book) (m ∷ told) n e = let rest : lengths_of (acks_in (u ∷ book)) ≡ told ++ n ∷ [] = cc in last_is (u ∷ book) told n rest

pub length_by : (down : Bool) (entries : ℕ) (book : List Turn) (b : Bool) → down ≡ b → last_length down entries book ≡ cond b (last_journal book) entries
length_by down entries book b is = ap (λ (d : Bool). cond d (last_journal book) entries) is

pub last_at : (book : List Turn) (t : Turn) → 1 ≤ length book → last_journal book ≡ (slice_index_or book (length book - 1) t).journal
last_at [] t some = absurd (omega (arith, some))
last_at (u ∷ []) t some = refl
last_at (u ∷ v ∷ book) t some =
    let next : length (u ∷ v ∷ book) - 1 ≡ suc (length (v ∷ book) - 1) = omega arith in
    last_at (v ∷ book) t (omega arith) ∙ sym (ap (λ (k : ℕ). (slice_index_or (u ∷ v ∷ book) k t).journal) next)

-- where there is no memory for a further acknowledgement
pub on_err : {T E : Type 0} {P : Type 0} (r : Result T E) → P → OnErr r P
on_err (Ok x) p = tt
on_err (Err e) p = p

-- all were, unless there was no memory or the disk failed
all_of : (status : Status) (stopped down all : Bool) → EndsBook status stopped down → IsTrue all ⊎ (IsTrue stopped ⊎ IsTrue down) → status ≡ Done → IsTrue all
all_of status stopped down all ends (inl a) e = a
all_of status stopped down all ends (inr (inl s)) e = let d : EndsBook Done stopped down = subst (λ (x : Status). EndsBook x stopped down) e ends in let no : true ≡ false = sym s ∙ d.0 in cc
all_of status stopped down all ends (inr (inr k)) e = let d : EndsBook Done stopped down = subst (λ (x : Status). EndsBook x stopped down) e ends in let no : true ≡ false = sym k ∙ d.1 in cc

up_by : (status : Status) (stopped down : Bool) → EndsBook status stopped down → status ≡ Done → down ≡ false
up_by status stopped down ends e = let d : EndsBook Done stopped down = subst (λ (x : Status). EndsBook x stopped down) e ends in d.1

fault_by : (status : Status) (stopped down : Bool) → EndsBook status stopped down → down ≡ true → IsFault status
fault_by Done stopped down ends is = let no : true ≡ false = sym is ∙ ends.1 in cc
fault_by Usage stopped down ends is = absurd ends
fault_by NoStore stopped down ends is = absurd ends
fault_by Exists stopped down ends is = absurd ends
fault_by ReadFault stopped down ends is = absurd ends
fault_by WriteFault stopped down ends is = tt
fault_by DiskFault stopped down ends is = tt
fault_by Damaged stopped down ends is = absurd ends
fault_by Memory stopped down ends is = let no : true ≡ false = sym is ∙ ends in cc
fault_by TooLong stopped down ends is = absurd ends

module _ (plan : Plan) (entry mid now : View) (status : Status) (script : List (List ℕ)) (book : List Turn) (all stopped : Bool) (store new : Logged) (journal : ℕ) (begun : Begun (start_of plan) plan.rows entry mid store) (told : mid.told ≡ entry.told) (le : entry.faults ≤ mid.faults)
    (c : Crowded store mid plan.l1 script book all stopped new now) (ends : EndsBook status stopped new.down) (length_is : journal ≡ last_length new.down new.store.counts.entries book) where
  abbrev p : Plain
  p = opened begun.first plan.rows

  abbrev Ran : Type 0
  Ran = Course p mid (lines_in book) (answers_in book) (acks_in book) now new

  booked_by : Ran → Booked plan entry now status script book journal
  booked_by (Goes q runs tells none holding) = record {
    queues = c.queues;
    weaves = c.weaves;
    first = begun.first;
    begins = begun.begins;
    plain = q;
    legal = inl (record {
      all = record { tells = tells; length_is = length_is ∙ length_by new.down new.store.counts.entries book false runs.up ∙ runs.stands.counts.entries };
      stays = runs_whole new now q runs;
    });
    asks = c.asks p begun.runs;
    kept = λ t. kept_of (start_of plan) entry mid now begun.first.journal q.journal (acks_in book) (begun.kept t) (holding (told ∙ t));
    ordered = λ t. c.ordered (told ∙ t);
    timely = λ t. c.timely (told ∙ t);
    answered = λ e. c.answered (all_of status stopped new.down all ends c.cause e);
  }
  booked_by (Failed n q down answers rose holding) = record {
    queues = c.queues;
    weaves = c.weaves;
    first = begun.first;
    begins = begun.begins;
    plain = q;
    legal = inr (record {
      cut = record {
        before = answers.before;
        line = answers.line;
        given = answers.given;
        last = answers.last;
        told = answers.told;
        mid = answers.mid;
        lines_are = answers.lines_are;
        answers_are = answers.answers_are;
        lengths_are = answers.lengths_are;
        tells = answers.tells;
        faults = answers.faults;
        length_is = length_is ∙ length_by new.down new.store.counts.entries book true down ∙ last_is book answers.told (journal_len answers.mid.journal) answers.lengths_are;
      };
      says = fault_by status stopped new.down ends down;
      rose = omega (arith, le, rose);
    });
    asks = c.asks p begun.runs;
    kept = λ t. kept_of (start_of plan) entry mid now begun.first.journal q.journal (acks_in book) (begun.kept t) (holding (told ∙ t));
    ordered = λ t. c.ordered (told ∙ t);
    timely = λ t. c.timely (told ∙ t);
    answered = λ e. c.answered (all_of status stopped new.down all ends c.cause e);
  }

  booked : Booked plan entry now status script book journal
  booked = booked_by (c.course p begun.runs)

  risen_by : Ran → new.down ≡ true → Rose entry.faults now.faults
  risen_by (Goes q runs tells none holding) is = let no : true ≡ false = sym is ∙ runs.up in cc
  risen_by (Failed n q down answers rose holding) is = omega (arith, le, rose)

  risen : new.down ≡ true → Rose entry.faults now.faults
  risen is = risen_by (c.course p begun.runs) is

  still_by : Ran → new.down ≡ false → now.faults ≡ entry.faults
  still_by (Goes q runs tells none holding) up = none ∙ begun.no_fault
  still_by (Failed n q down answers rose holding) up = let no : true ≡ false = sym down ∙ up in cc

  still : new.down ≡ false → now.faults ≡ entry.faults
  still up = still_by (c.course p begun.runs) up

book_late : (status : Status) (stopped down : Bool) → EndsBook status stopped down → crowds.IsLate status
book_late Done stopped down e = tt
book_late Usage stopped down e = absurd e
book_late NoStore stopped down e = absurd e
book_late Exists stopped down e = absurd e
book_late ReadFault stopped down e = absurd e
book_late WriteFault stopped down e = tt
book_late DiskFault stopped down e = tt
book_late Damaged stopped down e = absurd e
book_late Memory stopped down e = tt
book_late TooLong stopped down e = absurd e

late_late : (status : Status) → crowds.IsLate status → IsLate status
late_late Done l = tt
late_late Usage l = absurd l
late_late NoStore l = absurd l
late_late Exists l = absurd l
late_late ReadFault l = absurd l
late_late WriteFault l = tt
late_late DiskFault l = tt
late_late Damaged l = absurd l
late_late Memory l = tt
late_late TooLong l = absurd l

input_by : (limit : ℕ) (status : Status) (source : Option (List ℕ)) → crowds.IsLate status → FitsInput limit Done source → FitsInput limit status source
input_by limit Done source l f = f
input_by limit Usage source l f = absurd l
input_by limit NoStore source l f = absurd l
input_by limit Exists source l f = absurd l
input_by limit ReadFault source l f = absurd l
input_by limit WriteFault source l f = fits_cut limit WriteFault source tt
input_by limit DiskFault source l f = fits_cut limit DiskFault source tt
input_by limit Damaged source l f = absurd l
input_by limit Memory source l f = fits_cut limit Memory source tt
input_by limit TooLong source l f = absurd l

late_cause : (status : Status) (before after : World) (stopped down : Bool) → EndsBook status stopped down → (status ≡ WriteFault → Rose before.writes after.writes) → (down ≡ true → Rose before.disk.faults after.disk.faults) → HasRisen status before after
late_cause Done before after stopped down e w d = tt
late_cause Usage before after stopped down e w d = absurd e
late_cause NoStore before after stopped down e w d = absurd e
late_cause Exists before after stopped down e w d = absurd e
late_cause ReadFault before after stopped down e w d = absurd e
late_cause WriteFault before after stopped down e w d = w refl
late_cause DiskFault before after stopped down e w d = d e
late_cause Damaged before after stopped down e w d = absurd e
late_cause Memory before after stopped down e w d = tt
late_cause TooLong before after stopped down e w d = absurd e

pub crowd_late : (plan : Plan) (before after : World) (mid : View) (status : Status) (script : List (List ℕ)) (book : List Turn) (all stopped : Bool) (store new : Logged) (lines : ℕ) (acks : List Ack) (journal : ℕ) → Begun (start_of plan) plan.rows before.disk mid store
    → mid.told ≡ before.disk.told → before.disk.faults ≤ mid.faults → IsRead plan.lines before.source after.source script → after.reads ≡ before.reads → Crowded store mid plan.l1 script book all stopped new after.disk
    → TellsEnd stopped new.down book (length script) (sink_of before) after.disk.moment (sink_of after) status lines acks → journal ≡ last_length new.down new.store.counts.entries book → CrowdRun plan before after status lines acks journal
crowd_late plan before after mid status script book all stopped store new lines acks journal begun told le read reads c t length_is =
    let late = book_late status stopped new.down t.ends in
    let fits : IsTold before.disk → FitsStore status (start_of plan) before.disk.seen = λ k. late_fits status (start_of plan) before.disk.seen (late_late status late) (begun.first, begun.begins k) in
    let input = input_by plan.lines status before.source late read.fits in
    let cause = late_cause status before after stopped new.down t.ends t.cause (risen plan before.disk mid after.disk status script book all stopped store new journal begun told le c t.ends length_is) in
    let taken : status ≡ Usage → ⊥ = λ e. subst crowds.IsLate e late in
    record {
      ended = Late late (record {
        script = script;
        read = read;
        book = book;
        booked = booked plan before.disk mid after.disk status script book all stopped store new journal begun told le c t.ends length_is;
        told = t.told;
        count = t.count;
      });
      store = fits;
      input = input;
      cause = cause;
      still = λ e. record {
        reads = reads;
        writes = t.still e;
        disk = still plan before.disk mid after.disk status script book all stopped store new journal begun told le c t.ends length_is (up_by status stopped new.down t.ends e);
      };
      taken = taken;
      complete = completes plan before after status fits input cause taken;
    }
