-- Lines that are answered one after the other, one line more at a time.
use Rattle.std.proofs.Common.{inl, inr, ℕ, ◌≡◌, List, [], ◌∷◌, ◌++◌, refl, sym, ap, ◌∙◌, subst, arith, append-nil, false}
use Rattle.ut_outside.specs.Disk.{View, IsTold}
use Rattle.ut_outside.specs.Faults.{Rose}
use Rattle.ut_outside.specs.declared.ack.Ack.{Ack}
use Rattle.ut_plain.specs.declared.statement.Parsed.{Parsed}
use Rattle.ut_plain.specs.Journal.{journal_len}
use Rattle.ut_plain.specs.Plain.{Plain}
use Rattle.ut_plain.specs.Transcript.{Answer, AnswersLine, Faults}
use Rattle.ut_script.specs.Grammar.{parsed}
use Rattle.ut_engine.specs.Logged.{Logged}
use Rattle.ut_engine.specs.Runs.{Runs}
use Rattle.ut_run.specs.declared.start.Start.{Start}
use Rattle.ut_run.specs.declared.report.Status.{Status}
use Rattle.ut_course.specs.Telling.{Tells, AnswersAll, AnswersToFault}
use Rattle.ut_run.specs.Origin.{opened}
use Rattle.ut_run.specs.Keeping.{Kept}
use Rattle.ut_run.specs.Beginning.{Begun}
use Rattle.ut_run.specs.Serving.{parsed_lines, Course, IsFault, Served}
use Rattle.ut_course.specs.Keeping.{GoesOn, Keeps, lengths_of}
use Rattle.ut_course.proofs.KeepLemmas.{OnlyNow, CountsNow, runs_whole, no_shorter}
use Rattle.ut_course.proofs.TellLemmas.{tells_more, line_on, fault_on}
use Rattle.ut_run.proofs.KeepLemmas.{kept_on, kept_ack}
use Rattle.ut_run.proofs.TellLemmas.{whole_transcript, cut_transcript}

lengths-one : (acks : List Ack) (k : Ack) → lengths_of (acks ++ k ∷ []) ≡ lengths_of acks ++ k.journal ∷ []
lengths-one [] k = refl
lengths-one (a ∷ acks) k = ap (λ xs. a.journal ∷ xs) (lengths-one acks k)

pub lines-one : (script : List (List ℕ)) (line : List ℕ) → parsed_lines (script ++ line ∷ []) ≡ parsed_lines script ++ parsed false line ∷ []
lines-one [] line = refl
lines-one (l ∷ ls) line = ap (λ xs. parsed false l ∷ xs) (lines-one ls line)

-- nothing was answered yet
pub course-start : (start : Start) (rows : ℕ) (entry now : View) (store : Logged) (acks : List Ack) (journal : ℕ) → Begun start rows entry now store → acks ≡ [] → journal ≡ store.store.counts.entries → Course start rows entry now [] [] store acks journal
course-start start rows entry now store acks journal begun none is =
    subst (λ (ks : List Ack). Course start rows entry now [] [] store ks journal) (sym none) (record {
      first = begun.first;
      plain = opened begun.first rows;
      begins = begun.begins;
      tells = (refl, refl, refl);
      runs = begun.runs;
      kept = begun.kept;
      length_is = is ∙ begun.runs.stands.counts.entries;
    })

-- to the last line
pub course-end : (start : Start) (rows : ℕ) (entry now : View) (script : List (List ℕ)) (answers : List Answer) (store : Logged) (acks : List Ack) (journal : ℕ) (status : Status) → (c : Course start rows entry now script answers store acks journal)
    → Served start rows entry now status script answers acks journal c.plain
course-end start rows entry now script answers store acks journal status c =
    let all : AnswersAll (opened c.first rows) (parsed_lines script) answers (lengths_of acks) journal c.plain = record { tells = c.tells; length_is = c.length_is } in
    record {
      first = c.first;
      begins = c.begins;
      transcript = whole_transcript _ _ _ _ _ _ all;
      ended = inl (record { all = all; stays = runs_whole store now c.plain c.runs });
      kept = c.kept;
    }

module _ (start : Start) (rows : ℕ) (entry was now : View) (script : List (List ℕ)) (answers : List Answer) (old new : Logged) (acks acks_now : List Ack) (journal journal_now : ℕ) (line : List ℕ)
    (told : now.told ≡ was.told) (only : OnlyNow now) (counts : CountsNow now) (p : Course start rows entry was script answers old acks journal) where
  abbrev pub first : Plain
  first = opened p.first rows

  -- an acknowledgement now
  abbrev pub ack_of : ℕ → Ack
  ack_of n = record { journal = n; moment = now.moment }

  abbrev pub more : List (List ℕ)
  more = script ++ line ∷ []

  goes : (q : Plain) → GoesOn p.plain.journal q.journal → Keeps was now q.journal (journal_len p.plain.journal) → IsTold entry → Kept start entry now p.first.journal q.journal acks
  goes q on keeps e = let kept = p.kept e in kept_on start entry was now p.first.journal p.plain.journal q.journal acks on (told ∙ kept.told) (keeps kept.told) kept

  goes_acked : (q : Plain) → GoesOn p.plain.journal q.journal → Keeps was now q.journal (journal_len p.plain.journal) → Runs new now q → IsTold entry → Kept start entry now p.first.journal q.journal (acks ++ ack_of (journal_len q.journal) ∷ [])
  goes_acked q on keeps runs e =
      let kept = goes q on keeps e in
      kept_ack start entry now p.first.journal q.journal acks (journal_len q.journal) (omega arith) (λ c h. runs_whole new now q runs kept.told c (only c h)) kept

  loses_acked : (q : Plain) → GoesOn p.plain.journal q.journal → Keeps was now q.journal (journal_len p.plain.journal) → IsTold entry → Kept start entry now p.first.journal q.journal (acks ++ ack_of (journal_len p.plain.journal) ∷ [])
  loses_acked q on keeps e =
      let l = keeps (p.kept e).told in
      kept_ack start entry now p.first.journal q.journal acks (journal_len p.plain.journal) (no_shorter p.plain.journal q.journal on) (λ c h. l.each c (counts was.moment c l.later (only c h))) (goes q on keeps e)

  -- the lines with one more, and its answer
  tells_one : (a : Answer) (q : Plain) → AnswersLine p.plain (parsed false line) (a ∷ []) q → Tells first (parsed_lines more) (answers ++ a ∷ []) (lengths_of (acks ++ ack_of (journal_len q.journal) ∷ [])) q
  tells_one a q answered =
      subst (λ (ls : List Parsed). Tells first ls (answers ++ a ∷ []) (lengths_of (acks ++ ack_of (journal_len q.journal) ∷ [])) q) (sym (lines-one script line))
      (subst (λ (ns : List ℕ). Tells first (parsed_lines script ++ parsed false line ∷ []) (answers ++ a ∷ []) ns q) (sym (lengths-one acks (ack_of (journal_len q.journal))))
      (tells_more first (parsed_lines script) answers (lengths_of acks) p.plain (parsed false line) (a ∷ []) q p.tells answered))

  tells_none : (q : Plain) → AnswersLine p.plain (parsed false line) [] q → Tells first (parsed_lines more) answers (lengths_of acks) q
  tells_none q answered =
      subst (λ (ls : List Parsed). Tells first ls answers (lengths_of acks) q) (sym (lines-one script line))
      (subst (λ (ns : List ℕ). Tells first (parsed_lines script ++ parsed false line ∷ []) answers ns q) (append-nil (lengths_of acks))
      (subst (λ (xs : List Answer). Tells first (parsed_lines script ++ parsed false line ∷ []) xs (lengths_of acks ++ []) q) (append-nil answers)
      (tells_more first (parsed_lines script) answers (lengths_of acks) p.plain (parsed false line) [] q p.tells answered)))

  -- a line with no answer
  pub course-quiet : (q : Plain) → AnswersLine p.plain (parsed false line) [] q → Runs new now q → Keeps was now q.journal (journal_len p.plain.journal) → acks_now ≡ acks → journal_now ≡ journal_len q.journal → Course start rows entry now more answers new acks_now journal_now
  course-quiet q answered runs keeps e f =
      subst (λ (ks : List Ack). Course start rows entry now more answers new ks journal_now) (sym e) (record {
        first = p.first;
        plain = q;
        begins = p.begins;
        tells = tells_none q answered;
        runs = runs;
        kept = goes q (line_on p.plain (parsed false line) [] q answered) keeps;
        length_is = f;
      })

  -- one with an answer
  pub course-told : (a : Answer) (q : Plain) → AnswersLine p.plain (parsed false line) (a ∷ []) q → Runs new now q → Keeps was now q.journal (journal_len p.plain.journal) → acks_now ≡ acks ++ ack_of (journal_len q.journal) ∷ [] → journal_now ≡ journal_len q.journal
      → Course start rows entry now more (answers ++ a ∷ []) new acks_now journal_now
  course-told a q answered runs keeps e f =
      subst (λ (ks : List Ack). Course start rows entry now more (answers ++ a ∷ []) new ks journal_now) (sym e) (record {
        first = p.first;
        plain = q;
        begins = p.begins;
        tells = tells_one a q answered;
        runs = runs;
        kept = goes_acked q (line_on p.plain (parsed false line) (a ∷ []) q answered) keeps runs;
        length_is = f;
      })

  to_fault : (a : Answer) (q : Plain) → Faults p.plain (parsed false line) (a ∷ []) q → journal_now ≡ journal_len p.plain.journal
      → AnswersToFault first (parsed_lines more) (answers ++ a ∷ []) (lengths_of (acks ++ ack_of (journal_len p.plain.journal) ∷ [])) journal_now q
  to_fault a q faults f = record {
    before = parsed_lines script;
    line = parsed false line;
    given = answers;
    last = a ∷ [];
    told = lengths_of acks;
    mid = p.plain;
    lines_are = lines-one script line;
    answers_are = refl;
    lengths_are = lengths-one acks (ack_of (journal_len p.plain.journal));
    tells = p.tells;
    faults = faults;
    length_is = f;
  }

  -- one at which the disk failed
  pub course-lost : (status : Status) (a : Answer) (q : Plain) → Faults p.plain (parsed false line) (a ∷ []) q → Keeps was now q.journal (journal_len p.plain.journal) → acks_now ≡ acks ++ ack_of (journal_len p.plain.journal) ∷ [] → journal_now ≡ journal_len p.plain.journal
      → IsFault status → Rose entry.faults now.faults → Served start rows entry now status more (answers ++ a ∷ []) acks_now journal_now q
  course-lost status a q faults keeps e f fault rose =
      let cut = to_fault a q faults f in
      subst (λ (ks : List Ack). Served start rows entry now status more (answers ++ a ∷ []) ks journal_now q) (sym e) (record {
        first = p.first;
        begins = p.begins;
        transcript = cut_transcript _ _ _ _ _ _ cut;
        ended = inr (record { cut = cut; says = fault; rose = rose });
        kept = loses_acked q (fault_on p.plain (parsed false line) (a ∷ []) q faults) keeps;
      })
