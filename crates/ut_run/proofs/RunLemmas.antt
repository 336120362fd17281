-- What a run comes to, at each of its ends.
use Rattle.std.proofs.Common.{inl, inr, ℕ, suc, ◌+◌, ◌≡◌, ◌≤◌, ◌⊎◌, List, [], ◌∷◌, ◌++◌, length, Option, None, Some, Ok, Err, refl, sym, ap, ◌∙◌, subst, arith, true, false}
use Rattle.std.proofs.lemmas.List.{length-append}
use Rattle.ut_outside.specs.Disk.{View, Image, IsTold}
use Rattle.ut_outside.specs.Faults.{Rose}
use Rattle.ut_outside.proofs.RunLemmas.{reads_start}
use Rattle.ut_outside.specs.declared.ack.Ack.{Ack}
use Rattle.ut_outside.specs.declared.ask.Ask.{Ask}
use Rattle.ut_script.specs.Lines.{Reading, NextLine, StepsLine, AsksFew, Counts}
use Rattle.ut_script.specs.Grammar.{parsed}
use Rattle.ut_pages.specs.Layout.{IsMade}
use Rattle.ut_durable.specs.Journals.{HoldsJournal}
use Rattle.ut_engine.specs.Logged.{Logged}
use Rattle.ut_words.specs.declared.plan.Plan.{Plan}
use Rattle.ut_run.specs.declared.start.Start.{Start}
use Rattle.ut_run.specs.declared.start.Start.TheVariants.{New, Open}
use Rattle.ut_run.specs.declared.report.Report.{Report}
use Rattle.ut_outside.specs.Acks.{Acks}
use Rattle.ut_run.specs.declared.report.Status.{Status}
use Rattle.ut_run.specs.declared.report.Status.TheVariants.{Done, Usage, NoStore, Exists, ReadFault, WriteFault, DiskFault, Damaged, Memory, TooLong}
use Rattle.ut_run.specs.declared.turn.TurnEnd.{TurnEnd}
use Rattle.ut_run.specs.declared.turn.TurnEnd.TheVariants as ends
use Rattle.ut_run.specs.World.{World, StreamsStay, NoFault}
use Rattle.ut_run.specs.Plans.{start_of}
use Rattle.ut_run.specs.Script.{all_fit, is_too_long, FitsInput}
use Rattle.ut_run.specs.Turning.{Turns, TurnCauses, EndStatus}
use Rattle.ut_run.specs.Origin.{Origin, opened, Begins}
use Rattle.ut_run.specs.Beginning.{Begun, NotBegun}
use Rattle.ut_run.specs.Asking.{replies_of, AsksInTime}
use Rattle.ut_course.specs.Keeping.{lengths_of}
use Rattle.ut_run.specs.Serving.{parsed_lines, Answered, IsWritten, DidNothing}
use Rattle.ut_run.specs.Input.{NoLine}
use Rattle.ut_run.specs.Ends.{FitsStore, HasRisen, IsEarly, IsLate, Early, Late, IsComplete, Run}
use Rattle.ut_run.specs.Going.{Going}
use Rattle.ut_course.proofs.KeepLemmas.{OnlyNow}
use Rattle.ut_run.proofs.BeginLemmas.{said_journal, loses_untouched}
use Rattle.ut_course.proofs.KeepLemmas.{CountsNow}
use Rattle.ut_run.proofs.ServeLemmas.{progress-start, progress-more, progress-end, write_end, disk_end}
use Rattle.ut_run.proofs.AskLemmas.{in_time_read}
use Rattle.ut_run.proofs.EndsLemmas.{fit_more, reading-start, reading-more, EndsReading, reading-done, reading-long, IsCut, fits_cut, reading-cut}

-- ---- the store

-- what a run begins with
abbrev pub BeginsWith : Start → Image → Type 0
BeginsWith start c = (first : Origin) × Begins start first c

pub late_fits : (status : Status) (start : Start) (c : Image) → IsLate status → BeginsWith start c → FitsStore status start c
late_fits Done start c l b = b
late_fits Usage start c l b = absurd l
late_fits NoStore start c l b = absurd l
late_fits Exists start c l b = absurd l
late_fits ReadFault start c l b = b
late_fits WriteFault start c l b = b
late_fits DiskFault start c l b = tt
late_fits Damaged start c l b = absurd l
late_fits Memory start c l b = tt
late_fits TooLong start c l b = b

late_words : (status : Status) → IsLate status → status ≡ Usage → ⊥
late_words status l e = subst IsLate e l

-- ---- completeness

pub unmade_twice : (start : Start) (c : Image) (first : Origin) → Begins start first c → start ≡ New → IsMade c.pages → ⊥
unmade_twice New c first b e made = b.1 made
unmade_twice Open c first b e made = cc

pub opened_made : (start : Start) (c : Image) (first : Origin) → Begins start first c → start ≡ Open → HoldsJournal first.journal c
opened_made New c first b e = cc
opened_made Open c first b e = said_journal first c b

pub completes : (plan : Plan) (before after : World) (status : Status) → (IsTold before.disk → FitsStore status (start_of plan) before.disk.seen) → FitsInput plan.lines status before.source → HasRisen status before after → (status ≡ Usage → ⊥)
    → IsComplete plan before after status
completes plan before after status store input cause taken = record { complete = by status store input cause taken }
  where
    by : (status : Status) → (IsTold before.disk → FitsStore status (start_of plan) before.disk.seen) → FitsInput plan.lines status before.source → HasRisen status before after → (status ≡ Usage → ⊥)
        → IsTold before.disk → (first : Origin) → Begins (start_of plan) first before.disk.seen → (input : List ℕ) → before.source ≡ Some input → is_too_long plan.lines input ≡ false
        → (Rose before.reads after.reads → ⊥) → (Rose before.writes after.writes → ⊥) → (Rose before.disk.faults after.disk.faults → ⊥) → (status ≡ Done) ⊎ (status ≡ Memory)
    by Done store input cause taken told first begins bytes is short reads writes faults = inl refl
    by Usage store input cause taken told first begins bytes is short reads writes faults = absurd (taken refl)
    by NoStore store input cause taken told first begins bytes is short reads writes faults = let s = store told in absurd (s.1 (opened_made (start_of plan) before.disk.seen first begins s.0).reading.made)
    by Exists store input cause taken told first begins bytes is short reads writes faults = let s = store told in absurd (unmade_twice (start_of plan) before.disk.seen first begins s.0 s.1)
    by ReadFault store input cause taken told first begins bytes is short reads writes faults = absurd (reads cause)
    by WriteFault store input cause taken told first begins bytes is short reads writes faults = absurd (writes cause)
    by DiskFault store input cause taken told first begins bytes is short reads writes faults = absurd (faults cause)
    by Damaged store input cause taken told first begins bytes is short reads writes faults = let s = store told in absurd (s.2 first.journal (opened_made (start_of plan) before.disk.seen first begins s.0))
    by Memory store input cause taken told first begins bytes is short reads writes faults = inr refl
    by TooLong store input cause taken told first begins bytes is short reads writes faults = let long = subst (λ (o : Option (List ℕ)). FitsInput plan.lines TooLong o) is input in let no : true ≡ false = sym long ∙ short in cc

-- ---- a run that reached the lines

late : (plan : Plan) (before after : World) (status : Status) (script : List (List ℕ)) (lines : ℕ) (acks : List Ack) (journal : ℕ) → IsLate status → lines ≡ length script → lines ≤ plan.lines → all_fit script ≡ true
    → EndsReading plan.lines before.source after.source status script → Answered plan before after status script acks journal → HasRisen status before after → (status ≡ Done → NoFault before after) → Run plan before after status lines acks journal
late plan before after status script lines acks journal l count few fit input answered cause still =
    let store : IsTold before.disk → FitsStore status (start_of plan) before.disk.seen = λ told. late_fits status (start_of plan) before.disk.seen l (answered.served.first, answered.served.begins told) in
    record {
      ended = Late l (record { script = script; count = count; few = few; fit = fit; input = input.input; answered = answered });
      store = store;
      input = input.fits;
      cause = cause;
      still = still;
      taken = late_words status l;
      complete = completes plan before after status store input.fits cause (late_words status l);
    }

-- ---- early ends

pub early_cut : (status : Status) → IsEarly status → IsCut status
early_cut Done e = absurd e
early_cut Usage e = absurd e
early_cut NoStore e = tt
early_cut Exists e = tt
early_cut ReadFault e = absurd e
early_cut WriteFault e = absurd e
early_cut DiskFault e = tt
early_cut Damaged e = tt
early_cut Memory e = tt
early_cut TooLong e = absurd e

pub early_cause : (status : Status) (before after : World) → IsEarly status → (status ≡ DiskFault → Rose before.disk.faults after.disk.faults) → HasRisen status before after
early_cause Done before after e h = absurd e
early_cause Usage before after e h = absurd e
early_cause NoStore before after e h = tt
early_cause Exists before after e h = tt
early_cause ReadFault before after e h = absurd e
early_cause WriteFault before after e h = absurd e
early_cause DiskFault before after e h = h refl
early_cause Damaged before after e h = tt
early_cause Memory before after e h = tt
early_cause TooLong before after e h = absurd e

pub streams_stay : (before : World) (disk : View) → StreamsStay before (record before { disk = disk })
streams_stay before disk = record { source = refl; asks = refl; reads = refl; sink = refl; marks = refl; writes = refl }

pub early : (plan : Plan) (before : World) (disk : View) (status said : Status) (lines : ℕ) (acks : List Ack) (journal : ℕ) → said ≡ status → lines ≡ 0 → acks ≡ [] → journal ≡ 0 → NotBegun (start_of plan) before.disk disk status
    → Run plan before (record before { disk = disk }) said lines acks journal
early plan before disk status said lines acks journal is none no_acks no_journal n =
    let after : World = record before { disk = disk } in
    let input = fits_cut plan.lines status before.source (early_cut status n.early) in
    let cause = early_cause status before after n.early n.cause in
    let taken : status ≡ Usage → ⊥ = λ e. subst IsEarly e n.early in
    subst (λ (s : Status). Run plan before after s lines acks journal) (sym is) (record {
      ended = Early n.early (record { none = none; no_acks = no_acks; no_journal = no_journal; streams = streams_stay before disk; disk = n.disk });
      store = n.fits;
      input = input;
      cause = cause;
      still = λ e. absurd (subst IsEarly e n.early);
      taken = taken;
      complete = completes plan before after status n.fits input cause taken;
    })

-- memory was wanting before the store was touched
pub no_memory : (plan : Plan) (before : World) (said : Status) (lines : ℕ) (acks : List Ack) (journal : ℕ) → OnlyNow before.disk → said ≡ Memory → lines ≡ 0 → acks ≡ [] → journal ≡ 0 → Run plan before before said lines acks journal
no_memory plan before said lines acks journal only is none no_acks no_journal =
    early plan before before.disk Memory said lines acks journal is none no_acks no_journal
    (record { early = tt; fits = λ told. tt; cause = λ e. cc; disk = loses_untouched (start_of plan) before.disk Memory only })

-- ---- the way

pub going-start : (plan : Plan) (before : World) (disk : View) (lines : Reading) (store : Logged) (acks : List Ack) (journal : ℕ) → lines ≡ record { held = []; line = []; number = 0; limit = plan.lines; failed = None } → Begun (start_of plan) plan.rows before.disk disk store → acks ≡ [] → journal ≡ store.store.counts.entries
    → ((bytes : List ℕ) → before.sink ≡ Some bytes → length before.marks ≡ length bytes) → disk.told ≡ before.disk.told → Going plan before (record before { disk = disk }) 0 lines store acks journal
going-start plan before disk lines store acks journal is b none len each told = record {
  script = [];
  count_is = refl;
  few = omega arith;
  fit = refl;
  reading = reading-start before.source lines.held (ap (λ (r : Reading). r.held) is);
  no_error = ap (λ (r : Reading). r.failed) is;
  number = ap (λ (r : Reading). r.number) is;
  limit = ap (λ (r : Reading). r.limit) is;
  progress = progress-start plan before disk store acks journal b none len each;
  told = told;
  none = record { reads = refl; writes = refl; disk = b.no_fault };
}

-- so many lines at most were read
pub few_read : (plan : Plan) (before mid : World) (count : ℕ) (lines next : Reading) (old : Logged) (acks : List Ack) (journal : ℕ) → Going plan before mid count lines old acks journal → Counts lines (Ok true) next → count + 1 ≤ plan.lines
few_read plan before mid count lines next old acks journal g c = let a = c.number in let b = c.few in let d = c.limit in let e = g.number in let f = g.limit in omega (arith, a, b, d, e, f)

-- a line more
longer : (count : ℕ) (script : List (List ℕ)) (line : List ℕ) → count ≡ length script → count + 1 ≡ length (script ++ line ∷ [])
longer count script line is = omega (arith, is, length-append script (line ∷ []))

parsed_count : (script : List (List ℕ)) → length (parsed_lines script) ≡ length script
parsed_count [] = refl
parsed_count (l ∷ ls) = ap suc (parsed_count ls)

-- what the reader asks comes in time
asked : (plan : Plan) (before mid : World) (count : ℕ) (lines : Reading) (store : Logged) (acks : List Ack) (journal : ℕ) (now : Option (List Ask)) → (g : Going plan before mid count lines store acks journal) → AsksFew lines mid.source mid.sink mid.asks now
    → AsksInTime before.source before.sink before.asks (replies_of (parsed_lines g.script) g.progress.answers) now
asked plan before mid count lines store acks journal now g few =
    let p = g.progress in
    in_time_read (opened p.course.first plan.rows) before.source before.sink before.asks g.script (parsed_lines g.script) p.answers (lengths_of acks) p.course.plain lines mid.source mid.sink mid.marks acks mid.asks now (parsed_count g.script) g.reading p.course.tells p.written p.in_time few

-- a line more was answered
pub going-more : (plan : Plan) (before mid now : World) (count : ℕ) (lines next : Reading) (old new : Logged) (acks acks_now : List Ack) (journal journal_now : ℕ) → Going plan before mid count lines old acks journal
    → NextLine lines mid.source (Ok true) next now.source → StepsLine lines mid.source next now.source → AsksFew lines mid.source mid.sink mid.asks now.asks → Counts lines (Ok true) next → now.reads ≡ mid.reads → now.disk.told ≡ mid.disk.told → now.disk.faults ≡ mid.disk.faults → now.writes ≡ mid.writes → OnlyNow now.disk → CountsNow now.disk
    → Turns old mid.disk (parsed false next.line) (record { acks = acks; journal = journal }) (record { held = mid.sink; marks = mid.marks }) (Ok tt) new now.disk (record { acks = acks_now; journal = journal_now }) (record { held = now.sink; marks = now.marks })
    → Going plan before now (count + 1) next new acks_now journal_now
going-more plan before mid now count lines next old new acks acks_now journal journal_now g n m few c reads told faults writes only counts t = record {
  script = g.script ++ next.line ∷ [];
  count_is = longer count g.script next.line g.count_is;
  few = few_read plan before mid count lines next old acks journal g c;
  fit = fit_more g.script next.line g.fit c.short;
  reading = reading-more before.source g.script lines next mid.source now.source g.reading n m;
  no_error = c.failed;
  number = c.number ∙ ap (λ (k : ℕ). k + 1) g.number;
  limit = c.limit ∙ g.limit;
  progress = progress-more plan before mid now g.script old new acks acks_now journal journal_now next.line told only counts g.progress (asked plan before mid count lines old acks journal now.asks g few) (t.each g.progress.course.plain g.progress.course.runs);
  told = told ∙ g.told;
  none = record { reads = reads ∙ g.none.reads; writes = writes ∙ g.none.writes; disk = faults ∙ g.none.disk };
}

-- ---- ends between two lines

-- the source was asked, and nothing else
between : (plan : Plan) (before mid : World) (source : Option (List ℕ)) (asks : Option (List Ask)) (reads : ℕ) (status : Status) (count : ℕ) (lines : Reading) (store : Logged) (acks : List Ack) (journal : ℕ) → (g : Going plan before mid count lines store acks journal) → IsLate status
    → AsksFew lines mid.source mid.sink mid.asks asks → IsWritten status before g.progress.answers (record mid { source = source; asks = asks; reads = reads }) acks → EndsReading plan.lines before.source source status g.script → HasRisen status before (record mid { source = source; asks = asks; reads = reads }) → (status ≡ Done → NoFault before (record mid { source = source; asks = asks; reads = reads })) → Run plan before (record mid { source = source; asks = asks; reads = reads }) status count acks journal
between plan before mid source asks reads status count lines store acks journal g l few written input cause still =
    late plan before (record mid { source = source; asks = asks; reads = reads }) status g.script count acks journal l g.count_is g.few g.fit input (progress-end plan before mid source asks reads g.script store acks journal status g.progress (asked plan before mid count lines store acks journal asks g few) written) cause still

-- there is no further line
pub no_line : (plan : Plan) (before mid : World) (source : Option (List ℕ)) (asks : Option (List Ask)) (reads : ℕ) (status : Status) (count : ℕ) (lines next : Reading) (store : Logged) (acks : List Ack) (journal : ℕ) → Going plan before mid count lines store acks journal
    → AsksFew lines mid.source mid.sink mid.asks asks → NoLine status lines mid.source mid.reads next source reads → Run plan before (record mid { source = source; asks = asks; reads = reads }) status count acks journal
no_line plan before mid source asks reads Done count lines next store acks journal g few n =
    between plan before mid source asks reads Done count lines store acks journal g tt few g.progress.written (reading-done plan.lines before.source g.script lines next mid.source source (subst (λ (k : ℕ). k ≤ plan.lines) g.count_is g.few) g.fit g.reading n.0) tt
    (λ e. record { reads = n.1 ∙ g.none.reads; writes = g.none.writes; disk = g.none.disk })
no_line plan before mid source asks reads ReadFault count lines next store acks journal g few n =
    between plan before mid source asks reads ReadFault count lines store acks journal g tt few g.progress.written (reading-cut plan.lines before.source g.script lines.held mid.source source ReadFault g.reading tt) (let a = g.none.reads in omega (arith, a, n)) (λ e. cc)
no_line plan before mid source asks reads TooLong count lines next store acks journal g few n =
    between plan before mid source asks reads TooLong count lines store acks journal g tt few g.progress.written
    (reading-long plan.lines before.source g.script lines next mid.source source g.limit (g.number ∙ g.count_is) (subst (λ (k : ℕ). k ≤ plan.lines) g.count_is g.few) g.reading n) tt (λ e. cc)
no_line plan before mid source asks reads Memory count lines next store acks journal g few n =
    between plan before mid source asks reads Memory count lines store acks journal g tt few g.progress.written (reading-cut plan.lines before.source g.script lines.held mid.source source Memory g.reading tt) tt (λ e. cc)
no_line plan before mid source asks reads Usage count lines next store acks journal g few n = absurd n
no_line plan before mid source asks reads NoStore count lines next store acks journal g few n = absurd n
no_line plan before mid source asks reads Exists count lines next store acks journal g few n = absurd n
no_line plan before mid source asks reads WriteFault count lines next store acks journal g few n = absurd n
no_line plan before mid source asks reads DiskFault count lines next store acks journal g few n = absurd n
no_line plan before mid source asks reads Damaged count lines next store acks journal g few n = absurd n

-- ---- ends at a line

no_fewer : {n m : ℕ} → m ≡ n → n ≤ m
no_fewer same = omega (arith, same)

module _ (plan : Plan) (before mid after : World) (count : ℕ) (lines next : Reading) (old new : Logged) (acks acks_now : List Ack) (journal journal_now : ℕ) (g : Going plan before mid count lines old acks journal)
    (n : NextLine lines mid.source (Ok true) next after.source) (m : StepsLine lines mid.source next after.source) (few : AsksFew lines mid.source mid.sink mid.asks after.asks) (c : Counts lines (Ok true) next) (only : OnlyNow after.disk) (counts : CountsNow after.disk) where
  at_line : (status : Status) → IsLate status → IsCut status → Answered plan before after status (g.script ++ next.line ∷ []) acks_now journal_now → HasRisen status before after → (status ≡ Done → ⊥) → Run plan before after status (count + 1) acks_now journal_now
  at_line status l cut answered cause undone =
      late plan before after status (g.script ++ next.line ∷ []) (count + 1) acks_now journal_now l (longer count g.script next.line g.count_is) (few_read plan before mid count lines next old acks journal g c) (fit_more g.script next.line g.fit c.short)
      (reading-cut plan.lines before.source (g.script ++ next.line ∷ []) next.held after.source after.source status (reading-more before.source g.script lines next mid.source after.source g.reading n m) cut) answered cause (λ e. absurd (undone e))

  -- the run ends at a line
  pub at_end : (end : TurnEnd) (status : Status) → EndStatus end status → TurnCauses mid.disk after.disk mid.writes after.writes (Err end)
      → Turns old mid.disk (parsed false next.line) (record { acks = acks; journal = journal }) (record { held = mid.sink; marks = mid.marks }) (Err end) new after.disk (record { acks = acks_now; journal = journal_now }) (record { held = after.sink; marks = after.marks })
      → Run plan before after status (count + 1) acks_now journal_now
  at_end ends.Disk status is causes t =
      let rose = causes.disk refl in
      let p = g.progress in
      subst (λ (s : Status). Run plan before after s (count + 1) acks_now journal_now) (sym is)
      (at_line DiskFault tt tt (disk_end plan before mid after g.script old new acks acks_now journal journal_now next.line causes.told only counts p (asked plan before mid count lines old acks journal after.asks g few) rose (no_fewer g.none.disk) (t.each p.course.plain p.course.runs)) (let a = g.none.disk in omega (arith, a, rose)) (λ e. cc))
  at_end ends.Write status is causes t =
      let rose = causes.write refl in
      let p = g.progress in
      subst (λ (s : Status). Run plan before after s (count + 1) acks_now journal_now) (sym is)
      (at_line WriteFault tt tt (write_end plan before mid after g.script old new acks acks_now journal journal_now next.line causes.told only counts p (asked plan before mid count lines old acks journal after.asks g few) (no_fewer g.none.disk) (t.each p.course.plain p.course.runs)) (let a = g.none.writes in omega (arith, a, rose)) (λ e. cc))

-- room was made for an acknowledgement
pub roomy : (plan : Plan) (before mid : World) (count : ℕ) (lines : Reading) (store : Logged) (acks acks_now : List Ack) (journal journal_now : ℕ) → Going plan before mid count lines store acks journal → acks_now ≡ acks → journal_now ≡ journal → Going plan before mid count lines store acks_now journal_now
roomy plan before mid count lines store acks acks_now journal journal_now g e f =
    subst (λ (ks : List Ack). Going plan before mid count lines store ks journal_now) (sym e) (subst (λ (n : ℕ). Going plan before mid count lines store acks n) (sym f) g)

-- what a report says
pub reported : (plan : Plan) (before after : World) (status : Status) (lines journal : ℕ) (acks : Acks) (r : Report) → r ≡ record { status = status; lines = lines; acks = acks; journal = journal } → Run plan before after status lines acks.items journal
    → Run plan before after r.status r.lines r.acks.items r.journal
reported plan before after status lines journal acks r is run = subst (λ (x : Report). Run plan before after x.status x.lines x.acks.items x.journal) (sym is) run

-- nothing was done
pub did_nothing : (before : World) (lines : ℕ) (acks : List Ack) (journal : ℕ) → OnlyNow before.disk → lines ≡ 0 → acks ≡ [] → journal ≡ 0 → DidNothing before before lines acks journal
did_nothing before lines acks journal only none no_acks no_journal = record {
  none = none;
  no_acks = no_acks;
  no_journal = no_journal;
  streams = streams_stay before before.disk;
  disk = record { moment = refl; faults = refl; same = reads_start before.disk only };
}
