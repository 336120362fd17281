-- The course of a store, one line more at a time.
use Rattle.std.proofs.Common.{ℕ, ◌≡◌, ◌≤◌, Bool, true, false, cond, List, [], ◌∷◌, ◌++◌, Option, refl, ap, ◌∙◌, sym, subst, arith}
use Rattle.ut_outside.specs.Disk.{View, IsTold}
use Rattle.ut_outside.specs.Faults.{Rose}
use Rattle.ut_outside.specs.declared.ack.Ack.{Ack}
use Rattle.ut_plain.specs.declared.statement.Parsed.{Parsed}
use Rattle.ut_plain.specs.declared.reply.Reply.{Reply}
use Rattle.ut_plain.specs.declared.reply.Reply.TheVariants as replies
use Rattle.ut_plain.specs.Journal.{journal_len}
use Rattle.ut_plain.specs.Plain.{Plain}
use Rattle.ut_plain.specs.Transcript.{Answer, AnswersLine, Faults}
use Rattle.ut_engine.specs.Logged.{Logged}
use Rattle.ut_engine.specs.Runs.{Runs}
use Rattle.ut_course.specs.Telling.{Tells}
use Rattle.ut_course.specs.Keeping.{lengths_of, Keeps, Holding}
use Rattle.ut_course.specs.Coming.{Came, Answered, Lost, Comes, is_fault, length_after}
use Rattle.ut_course.specs.Course.{Course, Goes, Failed}
use Rattle.ut_course.proofs.KeepLemmas.{OnlyNow, CountsNow, runs_whole, no_shorter, holding_more}
use Rattle.ut_course.proofs.TellLemmas.{tells_more, line_on, fault_on}

lengths_more : (acks : List Ack) (k : Ack) → lengths_of (acks ++ k ∷ []) ≡ lengths_of acks ++ k.journal ∷ []
lengths_more [] k = refl
lengths_more (a ∷ acks) k = ap (λ xs. a.journal ∷ xs) (lengths_more acks k)

not_fault : (reply : Reply) → (reply ≡ replies.DiskFault → ⊥) → is_fault reply ≡ false
not_fault replies.Done h = refl
not_fault (replies.Committed n) h = refl
not_fault (replies.Changed a b) h = refl
not_fault (replies.Rows a) h = refl
not_fault (replies.Groups a) h = refl
not_fault (replies.Count a) h = refl
not_fault (replies.Sum a) h = refl
not_fault (replies.Min a) h = refl
not_fault (replies.Max a) h = refl
not_fault (replies.Moved a) h = refl
not_fault (replies.Merge a) h = refl
not_fault (replies.Saving a b) h = refl
not_fault (replies.Sealed a) h = refl
not_fault (replies.Root a) h = refl
not_fault (replies.Shape a) h = refl
not_fault (replies.Refused a) h = refl
not_fault replies.DiskFault h = absurd (h refl)

length_by : (reply : Reply) (b : Bool) (before after : ℕ) → is_fault reply ≡ b → length_after reply before after ≡ cond b before after
length_by reply b before after is = ap (λ (t : Bool). cond t before after) is

module _ (p : Plain) (disk : View) (lines : List Parsed) (answers : List Answer) (acks : List Ack) (was : View) (old : Logged) (line : Parsed) (who : Option ℕ) (reply : Reply) (now : View) (new : Logged)
    (only : OnlyNow now) (counts : CountsNow now) (same : now.told ≡ was.told) (le : disk.faults ≤ was.faults) where
  abbrev pub answer_now : Answer
  answer_now = record { session = who; reply = reply }

  abbrev pub ack_now : ℕ → Ack
  ack_now n = record { journal = n; moment = now.moment }

  abbrev pub After : ℕ → Type 0
  After n = Course p disk (lines ++ line ∷ []) (answers ++ answer_now ∷ []) (acks ++ ack_now n ∷ []) now new

  answered : (q r : Plain) → Runs old was q → Tells p lines answers (lengths_of acks) q → (IsTold disk → Holding disk was p.journal q.journal acks) → AnswersLine q line (answer_now ∷ []) r → Runs new now r → Keeps was now r.journal (journal_len q.journal) → now.faults ≡ disk.faults
      → After (journal_len r.journal)
  answered q r runs tells holding is runs' keeps still =
      Goes r runs'
      (subst (λ (ns : List ℕ). Tells p (lines ++ line ∷ []) (answers ++ answer_now ∷ []) ns r) (sym (lengths_more acks (ack_now (journal_len r.journal)))) (tells_more p lines answers (lengths_of acks) q line (answer_now ∷ []) r tells is))
      still
      (λ told.
      let h = holding told in
      holding_more disk was now p.journal q.journal r.journal acks (journal_len r.journal) (line_on q line (answer_now ∷ []) r is) same (omega arith) (λ c left. runs_whole new now r runs' (same ∙ h.told) c (only c left)) (keeps h.told) h)

  lost : (q r : Plain) → Tells p lines answers (lengths_of acks) q → (IsTold disk → Holding disk was p.journal q.journal acks) → new.down ≡ true → Faults q line (answer_now ∷ []) r → Keeps was now r.journal (journal_len q.journal) → Rose was.faults now.faults
      → After (journal_len q.journal)
  lost q r tells holding down faults keeps rose =
      Failed (journal_len q.journal) r down
      (record {
        before = lines;
        line = line;
        given = answers;
        last = answer_now ∷ [];
        told = lengths_of acks;
        mid = q;
        lines_are = refl;
        answers_are = refl;
        lengths_are = lengths_more acks (ack_now (journal_len q.journal));
        tells = tells;
        faults = faults;
        length_is = refl;
      })
      (omega (arith, le, rose))
      (λ told.
      let h = holding told in
      let l = keeps h.told in
      let on = fault_on q line (answer_now ∷ []) r faults in
      holding_more disk was now p.journal q.journal r.journal acks (journal_len q.journal) on same (no_shorter q.journal r.journal on) (λ c left. l.each c (counts was.moment c l.later (only c left))) l h)

  by_came : (q : Plain) → Runs old was q → Tells p lines answers (lengths_of acks) q → (IsTold disk → Holding disk was p.journal q.journal acks) → (reply ≡ replies.DiskFault → Rose was.faults now.faults) → ((reply ≡ replies.DiskFault → ⊥) → now.faults ≡ disk.faults) → Came q line who was reply new now
      → After (length_after reply old.store.counts.entries new.store.counts.entries)
  by_came q runs tells holding cause still (Answered r sound is runs' keeps) =
      subst (λ (n : ℕ). After n) (sym (length_by reply false old.store.counts.entries new.store.counts.entries (not_fault reply sound) ∙ runs'.stands.counts.entries)) (answered q r runs tells holding is runs' keeps (still sound))
  by_came q runs tells holding cause still (Lost r fault down faults keeps) =
      subst (λ (n : ℕ). After n) (sym (length_by reply true old.store.counts.entries new.store.counts.entries (ap is_fault fault) ∙ runs.stands.counts.entries)) (lost q r tells holding down faults keeps (cause fault))

  -- a line more was answered, and its answer is acknowledged now
  pub course_more : old.down ≡ false → Comes old was line who reply new now → Course p disk lines answers acks was old → After (length_after reply old.store.counts.entries new.store.counts.entries)
  course_more up comes (Goes q runs tells none holding) = by_came q runs tells holding comes.cause (λ sound. comes.still sound ∙ none) (comes.each q runs)
  course_more up comes (Failed journal q down told rose holding) = cc
