-- How far a run is, line by line, and what it comes to.
use Rattle.std.proofs.Common.{inl, inr, ℕ, ◌≡◌, ◌≤◌, ◌⊎◌, List, [], ◌∷◌, ◌++◌, length, Option, Some, Result, Ok, Err, refl, sym, ap, ◌∙◌, subst, arith, append-nil, false}
use Rattle.ut_outside.specs.Disk.{View}
use Rattle.ut_outside.specs.Faults.{Rose}
use Rattle.ut_outside.specs.declared.ack.Ack.{Ack}
use Rattle.ut_outside.specs.declared.ask.Ask.{Ask}
use Rattle.ut_outside.specs.declared.faults.Failed as fails
use Rattle.ut_plain.specs.declared.statement.Parsed.{Parsed}
use Rattle.ut_plain.specs.Journal.{journal_len}
use Rattle.ut_plain.specs.Plain.{Plain}
use Rattle.ut_plain.specs.Transcript.{Answer, AnswersLine, Faults}
use Rattle.ut_script.specs.Grammar.{parsed}
use Rattle.ut_engine.specs.Logged.{Logged}
use Rattle.ut_engine.specs.Runs.{Runs}
use Rattle.ut_words.specs.declared.plan.Plan.{Plan}
use Rattle.ut_run.specs.declared.report.Status.{Status}
use Rattle.ut_run.specs.declared.report.Status.TheVariants as statuses
use Rattle.ut_run.specs.declared.turn.TurnEnd.{TurnEnd}
use Rattle.ut_run.specs.declared.turn.TurnEnd.TheVariants as ends
use Rattle.ut_run.specs.World.{World}
use Rattle.ut_run.specs.Writing.{answer_text, Writes, HasWritten}
use Rattle.ut_run.specs.Asking.{replies_of, AsksInTime}
use Rattle.ut_course.specs.Keeping.{Keeps}
use Rattle.ut_run.specs.Turning.{Sunk, Noted, LineOutcome, Quiet, Told, Unwritten, Lost, LostUnwritten}
use Rattle.ut_run.specs.Plans.{start_of}
use Rattle.ut_run.specs.Origin.{opened}
use Rattle.ut_run.specs.Beginning.{Begun}
use Rattle.ut_course.specs.Keeping.{lengths_of}
use Rattle.ut_run.specs.Serving.{parsed_lines, Course, Progress, IsFault, IsWritten, Answered}
use Rattle.ut_course.proofs.KeepLemmas.{OnlyNow}
use Rattle.ut_course.proofs.KeepLemmas.{CountsNow}
use Rattle.ut_run.proofs.CourseLemmas.{lines-one, course-start, course-end, course-quiet, course-told, course-lost}
use Rattle.ut_run.proofs.AskLemmas.{in_time_start, in_time_more, replies_more}
use Rattle.ut_run.proofs.MarkLemmas.{written-more, written-some, nothing_written}

-- nothing was answered yet
pub progress-start : (plan : Plan) (before : World) (now : View) (store : Logged) (acks : List Ack) (journal : ℕ) → Begun (start_of plan) plan.rows before.disk now store → acks ≡ [] → journal ≡ store.store.counts.entries
    → ((bytes : List ℕ) → before.sink ≡ Some bytes → length before.marks ≡ length bytes) → Progress plan before (record before { disk = now }) [] store acks journal
progress-start plan before now store acks journal begun none is each = record {
  answers = [];
  course = course-start (start_of plan) plan.rows before.disk now store acks journal begun none is;
  written = subst (λ (ks : List Ack). HasWritten before.sink [] before.sink before.marks ks) (sym none) (nothing_written before.sink before.marks each);
  in_time = in_time_start before.source before.sink before.asks [];
}

-- a line with no answer
pub record QuietTurn (p : Plain) (line : Parsed) (was : View) (acks : List Ack) (held : Option (List ℕ)) (marks : List ℕ) (new : Logged) (now : View) (acks_now : List Ack) (journal_now : ℕ) (held_now : Option (List ℕ)) (marks_now : List ℕ) : Type 0 where
  pub plain : Plain
  pub answers : AnswersLine p line [] plain
  pub runs : Runs new now plain
  pub keeps : Keeps was now plain.journal (journal_len p.journal)
  pub acks_are : acks_now ≡ acks
  pub length_is : journal_now ≡ journal_len plain.journal
  pub held_is : held_now ≡ held
  pub marks_are : marks_now ≡ marks

-- one with an answer, which was written
pub record ToldTurn (p : Plain) (line : Parsed) (was : View) (acks : List Ack) (held : Option (List ℕ)) (marks : List ℕ) (new : Logged) (now : View) (acks_now : List Ack) (journal_now : ℕ) (held_now : Option (List ℕ)) (marks_now : List ℕ) : Type 0 where
  pub answer : Answer
  pub plain : Plain
  pub answers : AnswersLine p line (answer ∷ []) plain
  pub runs : Runs new now plain
  pub keeps : Keeps was now plain.journal (journal_len p.journal)
  pub acks_are : acks_now ≡ acks ++ record { journal = journal_len plain.journal; moment = now.moment } ∷ []
  pub length_is : journal_now ≡ journal_len plain.journal
  pub writes : Writes {T = Unit {0}} {E = fails.Failed} held marks (answer_text answer) now.moment (Ok tt) held_now marks_now

abbrev is_ok : Result (Unit {0}) TurnEnd → Type 0
is_ok (Ok x) = Unit {0}
is_ok (Err e) = ⊥

not_err : (r : Result (Unit {0}) TurnEnd) (e : TurnEnd) → r ≡ Ok tt → r ≡ Err e → ⊥
not_err r e h k = subst is_ok (sym h ∙ k) tt

pub ok_turn : (p : Plain) (line : Parsed) (was : View) (acks : List Ack) (journal : ℕ) (held : Option (List ℕ)) (marks : List ℕ) (result : Result (Unit {0}) TurnEnd) (new : Logged) (now : View) (acks_now : List Ack) (journal_now : ℕ) (held_now : Option (List ℕ)) (marks_now : List ℕ) → result ≡ Ok tt
    → LineOutcome p line was (record { acks = acks; journal = journal }) (record { held = held; marks = marks }) result new now (record { acks = acks_now; journal = journal_now }) (record { held = held_now; marks = marks_now })
    → QuietTurn p line was acks held marks new now acks_now journal_now held_now marks_now ⊎ ToldTurn p line was acks held marks new now acks_now journal_now held_now marks_now
ok_turn p line was acks journal held marks result new now acks_now journal_now held_now marks_now ok (Quiet q r answers runs keeps n s) =
    inl (record { plain = q; answers = answers; runs = runs; keeps = keeps; acks_are = ap (λ (x : Noted). x.acks) n; length_is = ap (λ (x : Noted). x.journal) n; held_is = ap (λ (x : Sunk). x.held) s; marks_are = ap (λ (x : Sunk). x.marks) s })
ok_turn p line was acks journal held marks result new now acks_now journal_now held_now marks_now ok (Told a q r answers runs keeps n w) =
    inr (record { answer = a; plain = q; answers = answers; runs = runs; keeps = keeps; acks_are = ap (λ (x : Noted). x.acks) n; length_is = ap (λ (x : Noted). x.journal) n; writes = w })
ok_turn p line was acks journal held marks result new now acks_now journal_now held_now marks_now ok (Unwritten a q x r answers runs keeps n w) = absurd (not_err result ends.Write ok r)
ok_turn p line was acks journal held marks result new now acks_now journal_now held_now marks_now ok (Lost a q r faults keeps n w) = absurd (not_err result ends.Disk ok r)
ok_turn p line was acks journal held marks result new now acks_now journal_now held_now marks_now ok (LostUnwritten a q x r faults keeps rose n w) = absurd (not_err result ends.Write ok r)

module _ (plan : Plan) (before was now : World) (script : List (List ℕ)) (old new : Logged) (acks acks_now : List Ack) (journal journal_now : ℕ) (line : List ℕ)
    (told : now.disk.told ≡ was.disk.told) (only : OnlyNow now.disk) (counts : CountsNow now.disk) (p : Progress plan before was script old acks journal)
    (asked : AsksInTime before.source before.sink before.asks (replies_of (parsed_lines script) p.answers) now.asks) where
  abbrev c : Course (start_of plan) plan.rows before.disk was.disk script p.answers old acks journal
  c = p.course

  abbrev first : Plain
  first = opened c.first plan.rows

  -- an acknowledgement now
  abbrev ack_of : ℕ → Ack
  ack_of n = record { journal = n; moment = now.disk.moment }

  abbrev more : List (List ℕ)
  more = script ++ line ∷ []

  -- what was asked stays in time
  asked_more : (here : List Answer) → AsksInTime before.source before.sink before.asks (replies_of (parsed_lines more) (p.answers ++ here)) now.asks
  asked_more here =
      subst (λ (texts : List (List ℕ)). AsksInTime before.source before.sink before.asks texts now.asks)
      (sym (ap (λ (ls : List Parsed). replies_of ls (p.answers ++ here)) (lines-one script line) ∙ replies_more first (parsed_lines script) p.answers (lengths_of acks) c.plain (parsed false line) here c.tells))
      (in_time_more before.source before.sink before.asks (replies_of (parsed_lines script) p.answers) (replies_of (parsed false line ∷ []) here) now.asks asked)

  on_told : (a : Answer) (q : Plain) → AnswersLine c.plain (parsed false line) (a ∷ []) q → Runs new now.disk q → Keeps was.disk now.disk q.journal (journal_len c.plain.journal) → acks_now ≡ acks ++ ack_of (journal_len q.journal) ∷ [] → journal_now ≡ journal_len q.journal
      → Course (start_of plan) plan.rows before.disk now.disk more (p.answers ++ a ∷ []) new acks_now journal_now
  on_told = course-told (start_of plan) plan.rows before.disk was.disk now.disk script p.answers old new acks acks_now journal journal_now line told only counts c

  quiet_on : (q : Plain) → AnswersLine c.plain (parsed false line) [] q → Runs new now.disk q → Keeps was.disk now.disk q.journal (journal_len c.plain.journal) → acks_now ≡ acks → journal_now ≡ journal_len q.journal → now.sink ≡ was.sink → now.marks ≡ was.marks
      → Progress plan before now more new acks_now journal_now
  quiet_on q answers runs keeps e f h m = record {
    answers = p.answers;
    course = course-quiet (start_of plan) plan.rows before.disk was.disk now.disk script p.answers old new acks acks_now journal journal_now line told only counts c q answers runs keeps e f;
    written = subst (λ (ks : List Ack). HasWritten before.sink p.answers now.sink now.marks ks) (sym e)
        (subst (λ (o : Option (List ℕ)). HasWritten before.sink p.answers o now.marks acks) (sym h) (subst (λ (ms : List ℕ). HasWritten before.sink p.answers was.sink ms acks) (sym m) p.written));
    in_time = subst (λ (xs : List Answer). AsksInTime before.source before.sink before.asks (replies_of (parsed_lines more) xs) now.asks) (append-nil p.answers) (asked_more []);
  }

  told_on : (a : Answer) (q : Plain) → AnswersLine c.plain (parsed false line) (a ∷ []) q → Runs new now.disk q → Keeps was.disk now.disk q.journal (journal_len c.plain.journal) → acks_now ≡ acks ++ ack_of (journal_len q.journal) ∷ [] → journal_now ≡ journal_len q.journal
      → Writes {T = Unit {0}} {E = fails.Failed} was.sink was.marks (answer_text a) now.disk.moment (Ok tt) now.sink now.marks → Progress plan before now more new acks_now journal_now
  told_on a q answers runs keeps e f w = record {
    answers = p.answers ++ a ∷ [];
    course = on_told a q answers runs keeps e f;
    written = subst (λ (ks : List Ack). HasWritten before.sink (p.answers ++ a ∷ []) now.sink now.marks ks) (sym e)
        (written-more before.sink p.answers a was.sink was.marks acks (journal_len q.journal) now.disk.moment now.sink now.marks p.written w);
    in_time = asked_more (a ∷ []);
  }

  -- one line was answered
  progress_by : QuietTurn c.plain (parsed false line) was.disk acks was.sink was.marks new now.disk acks_now journal_now now.sink now.marks ⊎ ToldTurn c.plain (parsed false line) was.disk acks was.sink was.marks new now.disk acks_now journal_now now.sink now.marks
      → Progress plan before now more new acks_now journal_now
  progress_by (inl t) = quiet_on t.plain t.answers t.runs t.keeps t.acks_are t.length_is t.held_is t.marks_are
  progress_by (inr t) = told_on t.answer t.plain t.answers t.runs t.keeps t.acks_are t.length_is t.writes

  pub progress-more : LineOutcome c.plain (parsed false line) was.disk (record { acks = acks; journal = journal }) (record { held = was.sink; marks = was.marks }) (Ok tt) new now.disk (record { acks = acks_now; journal = journal_now }) (record { held = now.sink; marks = now.marks })
      → Progress plan before now more new acks_now journal_now
  progress-more t = progress_by (ok_turn c.plain (parsed false line) was.disk acks journal was.sink was.marks (Ok tt) new now.disk acks_now journal_now now.sink now.marks refl t)

  -- ---- the last line

  unwritten_end : (a : Answer) (q : Plain) (x : fails.Failed) → AnswersLine c.plain (parsed false line) (a ∷ []) q → Runs new now.disk q → Keeps was.disk now.disk q.journal (journal_len c.plain.journal) → acks_now ≡ acks ++ ack_of (journal_len q.journal) ∷ [] → journal_now ≡ journal_len q.journal
      → Writes {T = Unit {0}} {E = fails.Failed} was.sink was.marks (answer_text a) now.disk.moment (Err x) now.sink now.marks → Answered plan before now statuses.WriteFault more acks_now journal_now
  unwritten_end a q x answers runs keeps e f w = record {
    answers = p.answers ++ a ∷ [];
    plain = (on_told a q answers runs keeps e f).plain;
    served = course-end (start_of plan) plan.rows before.disk now.disk more (p.answers ++ a ∷ []) new acks_now journal_now statuses.WriteFault (on_told a q answers runs keeps e f);
    written = subst (λ (ks : List Ack). IsWritten statuses.WriteFault before (p.answers ++ a ∷ []) now ks) (sym e)
        (written-some before.sink p.answers a was.sink was.marks acks (journal_len q.journal) now.disk.moment now.sink now.marks x p.written w);
    in_time = asked_more (a ∷ []);
  }

  lost_end : (status : Status) (a : Answer) (q : Plain) → Faults c.plain (parsed false line) (a ∷ []) q → Keeps was.disk now.disk q.journal (journal_len c.plain.journal) → acks_now ≡ acks ++ ack_of (journal_len c.plain.journal) ∷ [] → journal_now ≡ journal_len c.plain.journal
      → IsFault status → Rose before.disk.faults now.disk.faults → IsWritten status before (p.answers ++ a ∷ []) now (acks ++ ack_of (journal_len c.plain.journal) ∷ []) → Answered plan before now status more acks_now journal_now
  lost_end status a q faults keeps e f fault rose written = record {
    answers = p.answers ++ a ∷ [];
    plain = q;
    served = course-lost (start_of plan) plan.rows before.disk was.disk now.disk script p.answers old new acks acks_now journal journal_now line told only counts c status a q faults keeps e f fault rose;
    written = subst (λ (ks : List Ack). IsWritten status before (p.answers ++ a ∷ []) now ks) (sym e) written;
    in_time = asked_more (a ∷ []);
  }

  -- the sink failed at the answer
  pub write_end : before.disk.faults ≤ was.disk.faults
      → LineOutcome c.plain (parsed false line) was.disk (record { acks = acks; journal = journal }) (record { held = was.sink; marks = was.marks }) (Err ends.Write) new now.disk (record { acks = acks_now; journal = journal_now }) (record { held = now.sink; marks = now.marks })
      → Answered plan before now statuses.WriteFault more acks_now journal_now
  write_end le (Quiet q r answers runs keeps n s) = cc
  write_end le (Told a q r answers runs keeps n w) = cc
  write_end le (Unwritten a q x r answers runs keeps n w) = unwritten_end a q x answers runs keeps (ap (λ (x : Noted). x.acks) n) (ap (λ (x : Noted). x.journal) n) w
  write_end le (Lost a q r faults keeps n w) = cc
  write_end le (LostUnwritten a q x r faults keeps rose n w) = lost_end statuses.WriteFault a q faults keeps (ap (λ (x : Noted). x.acks) n) (ap (λ (x : Noted). x.journal) n) tt (omega (arith, le, rose))
      (written-some before.sink p.answers a was.sink was.marks acks (journal_len c.plain.journal) now.disk.moment now.sink now.marks x p.written w)

  -- the disk failed at the line
  pub disk_end : Rose was.disk.faults now.disk.faults → before.disk.faults ≤ was.disk.faults
      → LineOutcome c.plain (parsed false line) was.disk (record { acks = acks; journal = journal }) (record { held = was.sink; marks = was.marks }) (Err ends.Disk) new now.disk (record { acks = acks_now; journal = journal_now }) (record { held = now.sink; marks = now.marks })
      → Answered plan before now statuses.DiskFault more acks_now journal_now
  disk_end rose le (Quiet q r answers runs keeps n s) = cc
  disk_end rose le (Told a q r answers runs keeps n w) = cc
  disk_end rose le (Unwritten a q x r answers runs keeps n w) = cc
  disk_end rose le (Lost a q r faults keeps n w) =
      lost_end statuses.DiskFault a q faults keeps (ap (λ (x : Noted). x.acks) n) (ap (λ (x : Noted). x.journal) n) tt (omega (arith, le, rose))
      (written-more before.sink p.answers a was.sink was.marks acks (journal_len c.plain.journal) now.disk.moment now.sink now.marks p.written w)
  disk_end rose le (LostUnwritten a q x r faults keeps more n w) = cc

-- the run ends between two lines, where the source was asked
pub progress-end : (plan : Plan) (before now : World) (source : Option (List ℕ)) (asks : Option (List Ask)) (reads : ℕ) (script : List (List ℕ)) (store : Logged) (acks : List Ack) (journal : ℕ) (status : Status) → (p : Progress plan before now script store acks journal)
    → AsksInTime before.source before.sink before.asks (replies_of (parsed_lines script) p.answers) asks → IsWritten status before p.answers (record now { source = source; asks = asks; reads = reads }) acks → Answered plan before (record now { source = source; asks = asks; reads = reads }) status script acks journal
progress-end plan before now source asks reads script store acks journal status p asked written = record {
  answers = p.answers;
  plain = p.course.plain;
  served = course-end (start_of plan) plan.rows before.disk now.disk script p.answers store acks journal status p.course;
  written = written;
  in_time = asked;
}
