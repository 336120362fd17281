-- How far a run of the benchmark's script is, and what it comes to.
use Rattle.std.proofs.Common.{inl, inr, ℕ, ◌+◌, ◌*◌, ◌≡◌, ◌≤◌, ◌⊎◌, true, false, List, [], ◌∷◌, ◌++◌, length, Option, Result, Err, refl, sym, ap, ◌∙◌, subst, arith, append_assoc}
use Rattle.std.specs.Prelude.{IsErrOf}
use Rattle.std.proofs.lemmas.List.{length-append}
use Rattle.ut_outside.specs.Disk.{View, IsTold}
use Rattle.ut_outside.specs.Faults.{Rose}
use Rattle.ut_outside.specs.declared.ack.Ack.{Ack}
use Rattle.ut_outside.specs.Acks.{Acks}
use Rattle.ut_plain.specs.declared.reply.Reply.TheVariants as replies
use Rattle.ut_plain.specs.Plain.{Plain}
use Rattle.ut_plain.specs.Transcript.{Answer}
use Rattle.ut_script.specs.Grammar.{parsed}
use Rattle.ut_engine.specs.Logged.{Logged}
use Rattle.ut_gen.proofs.PlaceLemmas.{script-length}
use Rattle.ut_words.specs.declared.plan.Plan.{Plan}
use Rattle.ut_words.specs.Plans.{IsInRange}
use Rattle.ut_app.specs.declared.bench.LineEnd.{LineEnd}
use Rattle.ut_app.specs.declared.bench.LineEnd.TheVariants as ends
use Rattle.ut_run.specs.declared.report.Report.{Report}
use Rattle.ut_run.specs.declared.report.Status.{Status}
use Rattle.ut_run.specs.declared.report.Status.TheVariants.{Done, Usage, NoStore, Exists, ReadFault, WriteFault, DiskFault, Damaged, Memory, TooLong}
use Rattle.ut_app.specs.declared.tally.Heard.{Heard}
use Rattle.ut_app.specs.declared.tally.Heard.TheVariants as heards
use Rattle.ut_app.specs.declared.tally.Tally.{Tally}
use Rattle.ut_run.specs.World.{World, NoFault}
use Rattle.ut_run.specs.Plans.{start_of}
use Rattle.ut_run.specs.Origin.{Origin, Begins}
use Rattle.ut_run.specs.Beginning.{Begun, NotBegun}
use Rattle.ut_run.specs.Serving.{Served}
use Rattle.ut_run.specs.Ends.{FitsStore, HasRisen, IsEarly, IsLate}
use Rattle.ut_app.specs.Hearing.{tally_of, is_fault, heard_of, counted, Quiet, Answered, Failed, Hearing, Hears, Noting, noted_by}
use Rattle.ut_app.specs.Figures.{figures_by, figures_text}
use Rattle.ut_app.specs.Benching.{script_of, IsBenching, IsUnasked, Sinking, sink_of, TellsLine, KeepsNotes, TellsEnd, IsTelling, IsThrough, Benched, IsReached, Early, Late, IsWholeBench, BenchRun}
use Rattle.ut_course.proofs.KeepLemmas.{OnlyNow}
use Rattle.ut_run.proofs.BeginLemmas.{loses_untouched}
use Rattle.ut_course.proofs.KeepLemmas.{CountsNow}
use Rattle.ut_run.proofs.CourseLemmas.{course-start, course-end, course-quiet, course-told, course-lost}
use Rattle.ut_app.proofs.HearLemmas.{tally_more, refused_one, noted_answer}
use Rattle.ut_run.proofs.RunLemmas.{late_fits, early_cause, streams_stay, opened_made, unmade_twice}

-- ---- the way

pub bench-start : (plan : Plan) (entry now : View) (left : List (List ℕ)) (lines : ℕ) (store : Logged) (notes : Noting) → left ≡ script_of plan → lines ≡ 0 → Begun (start_of plan) plan.rows entry now store → notes.acks ≡ [] → notes.journal ≡ store.store.counts.entries
    → notes.tally ≡ tally_of [] → now.told ≡ entry.told → IsBenching plan entry now left lines store notes
bench-start plan entry now left lines store notes all none begun no_acks journal tally told = record {
  front = [];
  parts = sym all;
  count_is = none;
  answers = [];
  course = course-start (start_of plan) plan.rows entry now store notes.acks notes.journal begun no_acks journal;
  tally = tally;
  few = let e = ap (λ (t : Tally). t.refused) tally in omega (arith, e);
  told = told;
  faults = begun.no_fault;
}

-- a script has few lines
pub few_lines : (plan : Plan) (entry now : View) (left : List (List ℕ)) (lines : ℕ) (store : Logged) (notes : Noting) → IsInRange plan → IsBenching plan entry now left lines store notes → lines ≤ 12026
few_lines plan entry now left lines store notes range b =
    let all : length (script_of plan) ≡ 24 * plan.size + 26 = script-length plan.seed plan.size in
    let parts = ap length b.parts in
    let size = range.size.1 in
    omega (arith, all, parts, length-append b.front left, b.count_is, size)

longer : (lines : ℕ) (front : List (List ℕ)) (text : List ℕ) → lines ≡ length front → lines + 1 ≡ length (front ++ text ∷ [])
longer lines front text is = omega (arith, is, length-append front (text ∷ []))

-- a fault that was heard
pub fault_heard : (heard : Heard) → is_fault heard ≡ true → heard ≡ heards.Fault
fault_heard heards.Fault h = refl
fault_heard heards.Nothing h = cc
fault_heard heards.Refusal h = cc
fault_heard (heards.Sum n) h = cc
fault_heard heards.Else h = cc

-- what is seen of a sink
abbrev pub sinking : Option (List ℕ) → List ℕ → ℕ → Sinking
sinking held marks writes = record { held = held; marks = marks; writes = writes }

not_both : (heard : Heard) → heard ≡ heards.Fault → is_fault heard ≡ false → ⊥
not_both heard e f = let no : true ≡ false = sym (ap is_fault e) ∙ f in cc

module _ (plan : Plan) (entry was now : View) (all left : List (List ℕ)) (lines : ℕ) (old new : Logged) (notes notes_now : Noting) (text : List ℕ) (heard : Heard) (b : IsBenching plan entry was all lines old notes) (took : all ≡ text ∷ left)
    (noted : notes_now ≡ noted_by heard notes old.store.counts.entries new.store.counts.entries now.moment) (told : now.told ≡ was.told) (still : (heard ≡ heards.Fault → ⊥) → now.faults ≡ was.faults) (only : OnlyNow now) (counts : CountsNow now) where
  abbrev front_now : List (List ℕ)
  front_now = b.front ++ text ∷ []

  parts_now : script_of plan ≡ front_now ++ left
  parts_now = b.parts ∙ ap (λ (ls : List (List ℕ)). b.front ++ ls) took ∙ sym (append_assoc b.front (text ∷ []) left)

  -- what is noted of an answer
  noted_now : (a : Answer) → heard ≡ heard_of a.reply → (a.reply ≡ replies.DiskFault → ⊥)
      → notes_now ≡ record { acks = notes.acks ++ record { journal = new.store.counts.entries; moment = now.moment } ∷ []; journal = new.store.counts.entries; tally = counted notes.tally (heard_of a.reply) }
  noted_now a e sound = noted ∙ ap (λ (h : Heard). noted_by h notes old.store.counts.entries new.store.counts.entries now.moment) e ∙ noted_answer notes old.store.counts.entries new.store.counts.entries now.moment a.reply sound

  going_on : is_fault heard ≡ false → Hearing b.course.plain (parsed false text) was heard new now → IsBenching plan entry now left (lines + 1) new notes_now
  going_on well (Quiet q e answers runs keeps) =
      let n : notes_now ≡ record { acks = notes.acks; journal = new.store.counts.entries; tally = notes.tally } = noted ∙ ap (λ (h : Heard). noted_by h notes old.store.counts.entries new.store.counts.entries now.moment) e in
      let same : notes_now.tally ≡ notes.tally = ap (λ (x : Noting). x.tally) n in
      record {
        front = front_now;
        parts = parts_now;
        count_is = longer lines b.front text b.count_is;
        answers = b.answers;
        course = course-quiet (start_of plan) plan.rows entry was now b.front b.answers old new notes.acks notes_now.acks notes.journal notes_now.journal text told only counts b.course q answers runs keeps (ap (λ (x : Noting). x.acks) n)
            (ap (λ (x : Noting). x.journal) n ∙ runs.stands.counts.entries);
        tally = same ∙ b.tally;
        few = let e = ap (λ (t : Tally). t.refused) same in let f = b.few in omega (arith, e, f);
        told = told ∙ b.told;
        faults = still (λ e. not_both heard e well) ∙ b.faults;
      }
  going_on well (Answered a q e sound answers runs keeps) =
      let n = noted_now a e sound in
      let same : notes_now.tally ≡ counted notes.tally (heard_of a.reply) = ap (λ (x : Noting). x.tally) n in
      let length_is = runs.stands.counts.entries in
      record {
        front = front_now;
        parts = parts_now;
        count_is = longer lines b.front text b.count_is;
        answers = b.answers ++ a ∷ [];
        course = course-told (start_of plan) plan.rows entry was now b.front b.answers old new notes.acks notes_now.acks notes.journal notes_now.journal text told only counts b.course a q answers runs keeps
            (ap (λ (x : Noting). x.acks) n ∙ ap (λ (k : ℕ). notes.acks ++ record { journal = k; moment = now.moment } ∷ []) length_is) (ap (λ (x : Noting). x.journal) n ∙ length_is);
        tally = same ∙ ap (λ (t : Tally). counted t (heard_of a.reply)) b.tally ∙ tally_more b.answers a sound;
        few = subst (λ (t : Tally). t.refused ≤ lines + 1) (sym same) (refused_one notes.tally a.reply lines sound b.few);
        told = told ∙ b.told;
        faults = still (λ e. not_both heard e well) ∙ b.faults;
      }
  going_on well (Failed a q e faulted keeps) = absurd (not_both heard e well)

  -- a line more was answered
  pub bench-more : is_fault heard ≡ false → Hears old was (parsed false text) heard new now → IsBenching plan entry now left (lines + 1) new notes_now
  bench-more well h = going_on well (h.each b.course.plain b.course.runs)

  -- what the run comes to where the disk failed at the line
  pub record Faulted : Type 0 where
    pub front : List (List ℕ)
    pub parts : script_of plan ≡ front ++ left
    pub count : lines + 1 ≡ length front
    pub answers : List Answer
    pub plain : Plain
    pub served : Served (start_of plan) plan.rows entry now DiskFault front answers notes_now.acks notes_now.journal plain

  faulted_by : is_fault heard ≡ true → Rose entry.faults now.faults → Hearing b.course.plain (parsed false text) was heard new now → Faulted
  faulted_by ill rose (Quiet q e answers runs keeps) = let no : false ≡ true = sym (ap is_fault e) ∙ ill in cc
  faulted_by ill rose (Answered a q e sound answers runs keeps) = absurd (no_fault a.reply sound (sym (ap is_fault e) ∙ ill))
    where
      no_fault : (r : _) → (r ≡ replies.DiskFault → ⊥) → is_fault (heard_of r) ≡ true → ⊥
      no_fault replies.DiskFault s f = s refl
      no_fault replies.Done s f = cc
      no_fault (replies.Committed x) s f = cc
      no_fault (replies.Changed x y) s f = cc
      no_fault (replies.Rows x) s f = cc
      no_fault (replies.Groups x) s f = cc
      no_fault (replies.Count x) s f = cc
      no_fault (replies.Sum x) s f = cc
      no_fault (replies.Min x) s f = cc
      no_fault (replies.Max x) s f = cc
      no_fault (replies.Moved x) s f = cc
      no_fault (replies.Merge x) s f = cc
      no_fault (replies.Saving x y) s f = cc
      no_fault (replies.Sealed x) s f = cc
      no_fault (replies.Root x) s f = cc
      no_fault (replies.Shape x) s f = cc
      no_fault (replies.Refused x) s f = cc
  faulted_by ill rose (Failed a q e faulted keeps) =
      let n : notes_now ≡ record { acks = notes.acks ++ record { journal = old.store.counts.entries; moment = now.moment } ∷ []; journal = old.store.counts.entries; tally = notes.tally } =
      noted ∙ ap (λ (h : Heard). noted_by h notes old.store.counts.entries new.store.counts.entries now.moment) e in
      let length_is = b.course.runs.stands.counts.entries in
      record {
        front = front_now;
        parts = parts_now;
        count = longer lines b.front text b.count_is;
        answers = b.answers ++ a ∷ [];
        plain = q;
        served = course-lost (start_of plan) plan.rows entry was now b.front b.answers old new notes.acks notes_now.acks notes.journal notes_now.journal text told only counts b.course DiskFault a q faulted keeps
            (ap (λ (x : Noting). x.acks) n ∙ ap (λ (k : ℕ). notes.acks ++ record { journal = k; moment = now.moment } ∷ []) length_is) (ap (λ (x : Noting). x.journal) n ∙ length_is) tt rose;
      }

  pub bench-fault : is_fault heard ≡ true → Rose entry.faults now.faults → Hears old was (parsed false text) heard new now → Faulted
  bench-fault ill rose h = faulted_by ill rose (h.each b.course.plain b.course.runs)

-- ---- ends

bench_completes : (plan : Plan) (before after : World) (status : Status) → (IsReached status ⊎ IsEarly status) → (IsTold before.disk → FitsStore status (start_of plan) before.disk.seen) → HasRisen status before after → IsWholeBench plan before after status
bench_completes plan before after status kind store cause = record { complete = by status kind store cause }
  where
    by : (status : Status) → (IsReached status ⊎ IsEarly status) → (IsTold before.disk → FitsStore status (start_of plan) before.disk.seen) → HasRisen status before after
        → IsTold before.disk → (first : Origin) → Begins (start_of plan) first before.disk.seen → (Rose before.writes after.writes → ⊥) → (Rose before.disk.faults after.disk.faults → ⊥) → (status ≡ Done) ⊎ (status ≡ Memory)
    by Done kind store cause told first begins writes faults = inl refl
    by Usage (inl r) store cause told first begins writes faults = absurd r
    by Usage (inr r) store cause told first begins writes faults = absurd r
    by NoStore kind store cause told first begins writes faults = let s = store told in absurd (s.1 (opened_made (start_of plan) before.disk.seen first begins s.0).reading.made)
    by Exists kind store cause told first begins writes faults = let s = store told in absurd (unmade_twice (start_of plan) before.disk.seen first begins s.0 s.1)
    by ReadFault (inl r) store cause told first begins writes faults = absurd r
    by ReadFault (inr r) store cause told first begins writes faults = absurd r
    by WriteFault kind store cause told first begins writes faults = absurd (writes cause)
    by DiskFault kind store cause told first begins writes faults = absurd (faults cause)
    by Damaged kind store cause told first begins writes faults = let s = store told in absurd (s.2 first.journal (opened_made (start_of plan) before.disk.seen first begins s.0))
    by Memory kind store cause told first begins writes faults = inr refl
    by TooLong (inl r) store cause told first begins writes faults = absurd r
    by TooLong (inr r) store cause told first begins writes faults = absurd r

pub bench_early : (plan : Plan) (before : World) (disk : View) (status said : Status) (lines : ℕ) (acks : List Ack) (journal : ℕ) → said ≡ status → lines ≡ 0 → acks ≡ [] → journal ≡ 0 → NotBegun (start_of plan) before.disk disk status
    → BenchRun plan before (record before { disk = disk }) said lines acks journal
bench_early plan before disk status said lines acks journal is none no_acks no_journal n =
    let after : World = record before { disk = disk } in
    let cause = early_cause status before after n.early n.cause in
    subst (λ (s : Status). BenchRun plan before after s lines acks journal) (sym is) (record {
      ended = Early n.early (record { none = none; no_acks = no_acks; no_journal = no_journal; streams = streams_stay before disk; disk = n.disk });
      unasked = record { source = refl; asks = refl; reads = refl };
      store = n.fits;
      cause = cause;
      still = λ e. absurd (subst IsEarly e n.early);
      taken = λ e. subst IsEarly e n.early;
      complete = bench_completes plan before after status (inr n.early) n.fits cause;
    })

pub bench_no_memory : (plan : Plan) (before : World) (said : Status) (lines : ℕ) (acks : List Ack) (journal : ℕ) → OnlyNow before.disk → said ≡ Memory → lines ≡ 0 → acks ≡ [] → journal ≡ 0 → BenchRun plan before before said lines acks journal
bench_no_memory plan before said lines acks journal only is none no_acks no_journal =
    bench_early plan before before.disk Memory said lines acks journal is none no_acks no_journal
    (record { early = tt; fits = λ told. tt; cause = λ e. cc; disk = loses_untouched (start_of plan) before.disk Memory only })

reached_late : (status : Status) → IsReached status → IsLate status
reached_late Done r = tt
reached_late Usage r = absurd r
reached_late NoStore r = absurd r
reached_late Exists r = absurd r
reached_late ReadFault r = absurd r
reached_late WriteFault r = tt
reached_late DiskFault r = tt
reached_late Damaged r = absurd r
reached_late Memory r = tt
reached_late TooLong r = absurd r

-- lines of the script were answered
pub bench_late : (plan : Plan) (before after : World) (status : Status) (lines : ℕ) (acks : List Ack) (journal : ℕ) → IsReached status → IsUnasked before after → HasRisen status before after → (status ≡ Done → NoFault before after) → Benched plan before after status lines acks journal → BenchRun plan before after status lines acks journal
bench_late plan before after status lines acks journal r unasked cause still b =
    let store : IsTold before.disk → FitsStore status (start_of plan) before.disk.seen = λ told. late_fits status (start_of plan) before.disk.seen (reached_late status r) (b.served.first, b.served.begins told) in
    record {
      ended = Late r b;
      unasked = unasked;
      store = store;
      cause = cause;
      still = still;
      taken = λ e. subst IsReached e r;
      complete = bench_completes plan before after status (inl r) store cause;
    }

-- a report of these
pub bench_reported : (plan : Plan) (before after : World) (status : Status) (lines journal : ℕ) (acks : Acks) (r : Report) → r ≡ record { status = status; lines = lines; acks = acks; journal = journal } → BenchRun plan before after status lines acks.items journal
    → BenchRun plan before after r.status r.lines r.acks.items r.journal
bench_reported plan before after status lines journal acks r is run = subst (λ (x : Report). BenchRun plan before after x.status x.lines x.acks.items x.journal) (sym is) run

telling_reached : (status : Status) → IsTelling status → IsReached status
telling_reached Done t = tt
telling_reached Usage t = absurd t
telling_reached NoStore t = absurd t
telling_reached Exists t = absurd t
telling_reached ReadFault t = absurd t
telling_reached WriteFault t = tt
telling_reached DiskFault t = absurd t
telling_reached Damaged t = absurd t
telling_reached Memory t = tt
telling_reached TooLong t = absurd t

telling_through : (status : Status) (left : List (List ℕ)) → left ≡ [] → IsThrough status left
telling_through Done left e = e
telling_through Usage left e = tt
telling_through NoStore left e = tt
telling_through Exists left e = tt
telling_through ReadFault left e = tt
telling_through WriteFault left e = e
telling_through DiskFault left e = tt
telling_through Damaged left e = tt
telling_through Memory left e = tt
telling_through TooLong left e = tt

telling_risen : (status : Status) (before after : World) → IsTelling status → (status ≡ WriteFault → Rose before.writes after.writes) → HasRisen status before after
telling_risen Done before after t h = tt
telling_risen Usage before after t h = tt
telling_risen NoStore before after t h = tt
telling_risen Exists before after t h = tt
telling_risen ReadFault before after t h = absurd t
telling_risen WriteFault before after t h = h refl
telling_risen DiskFault before after t h = absurd t
telling_risen Damaged before after t h = tt
telling_risen Memory before after t h = tt
telling_risen TooLong before after t h = tt

-- the disk failed at a line
pub bench_faulted : (plan : Plan) (before after : World) (left : List (List ℕ)) (lines : ℕ) (front : List (List ℕ)) (answers : List Answer) (plain : Plain) (acks : List Ack) (journal : ℕ) → script_of plan ≡ front ++ left → lines ≡ length front
    → Served (start_of plan) plan.rows before.disk after.disk DiskFault front answers acks journal plain → IsUnasked before after → sink_of after ≡ sink_of before → Rose before.disk.faults after.disk.faults → BenchRun plan before after DiskFault lines acks journal
bench_faulted plan before after left lines front answers plain acks journal parts count served unasked ungiven rose = bench_late plan before after DiskFault lines acks journal tt unasked rose (λ e. cc) (record {
  front = front;
  left = left;
  parts = parts;
  count = count;
  through = tt;
  answers = answers;
  plain = plain;
  served = served;
  written = ungiven;
})

-- why no line was taken
abbrev no_line : LineEnd → Result (Unit {0}) LineEnd
no_line end = Err end

pub end_through : (end : LineEnd) (status : Status) (left : List (List ℕ)) → (IsErrOf (no_line end) ends.Over → left ≡ []) → (end ≡ ends.Memory → status ≡ Memory) → IsThrough status left
end_through ends.Over status left over lacks = telling_through status left (over refl)
end_through ends.Memory status left over lacks = subst (λ (s : Status). IsThrough s left) (sym (lacks refl)) tt

-- what is noted stayed
pub noted_same : (plan : Plan) (entry now : View) (left : List (List ℕ)) (lines lines_now : ℕ) (store : Logged) (acks acks_now : List Ack) (journal journal_now : ℕ) (tally tally_now : Tally) → IsBenching plan entry now left lines store (record { acks = acks; journal = journal; tally = tally }) → lines_now ≡ lines
    → KeepsNotes acks journal tally acks_now journal_now tally_now → IsBenching plan entry now left lines_now store (record { acks = acks_now; journal = journal_now; tally = tally_now })
noted_same plan entry now left lines lines_now store acks acks_now journal journal_now tally tally_now b e k =
    subst (λ (n : ℕ). IsBenching plan entry now left n store (record { acks = acks_now; journal = journal_now; tally = tally_now })) (sym e)
    (subst (λ (ks : List Ack). IsBenching plan entry now left lines store (record { acks = ks; journal = journal_now; tally = tally_now })) (sym k.same_acks)
    (subst (λ (n : ℕ). IsBenching plan entry now left lines store (record { acks = acks; journal = n; tally = tally_now })) (sym k.same_journal)
    (subst (λ (t : Tally). IsBenching plan entry now left lines store (record { acks = acks; journal = journal; tally = t })) (sym k.same_tally) b)))

-- the script was answered, and the line told
pub bench_told : (plan : Plan) (before after : World) (left : List (List ℕ)) (lines : ℕ) (store : Logged) (notes : Noting) (status : Status) → IsBenching plan before.disk after.disk left lines store notes → IsThrough status left → IsUnasked before after
    → TellsEnd store.store lines notes.tally status (sink_of before) after.disk.moment (sink_of after) → BenchRun plan before after status lines notes.acks notes.journal
bench_told plan before after left lines store notes status b through unasked told =
    bench_late plan before after status lines notes.acks notes.journal (telling_reached status told.says) unasked (telling_risen status before after told.says told.cause) (λ e. record { reads = unasked.reads; writes = told.still e; disk = b.faults }) (record {
      front = b.front;
      left = left;
      parts = b.parts;
      count = b.count_is;
      through = through;
      answers = b.answers;
      plain = b.course.plain;
      served = course-end (start_of plan) plan.rows before.disk after.disk b.front b.answers store notes.acks notes.journal status b.course;
      written = subst (λ (t : Tally). TellsLine status (sink_of before) (figures_text (figures_by lines t b.course.plain.journal)) after.disk.moment (sink_of after)) b.tally (told.each b.course.plain b.course.runs.stands);
    })
