-- The answers to lines as transcripts.
use Rattle.std.proofs.Common.{ℕ, List, [], ◌∷◌}
use Rattle.ut_plain.specs.declared.statement.Parsed.{Parsed}
use Rattle.ut_plain.specs.Plain.{Plain}
use Rattle.ut_plain.specs.Transcript.{Answer, Answers, Transcript, Whole, Cut}
use Rattle.ut_course.specs.Telling.{Tells, AnswersAll, AnswersToFault}

tells_answers : (p : Plain) (lines : List Parsed) (answers : List Answer) (lengths : List ℕ) (q : Plain) → Tells p lines answers lengths q → Answers p lines answers q
tells_answers p [] answers lengths q t = (t.0, t.2)
tells_answers p (line ∷ lines) answers lengths q t = (t.0, t.1, t.4, t.5, t.7.0, tells_answers t.4 lines t.1 t.3 q t.8)

pub whole_transcript : (p : Plain) (lines : List Parsed) (answers : List Answer) (lengths : List ℕ) (journal : ℕ) (q : Plain) → AnswersAll p lines answers lengths journal q → Transcript p lines answers q
whole_transcript p lines answers lengths journal q a = Whole (tells_answers p lines answers lengths q a.tells)

pub cut_transcript : (p : Plain) (lines : List Parsed) (answers : List Answer) (lengths : List ℕ) (journal : ℕ) (q : Plain) → AnswersToFault p lines answers lengths journal q → Transcript p lines answers q
cut_transcript p lines answers lengths journal q a = Cut a.before a.line a.given a.last a.mid a.lines_are a.answers_are (tells_answers p a.before a.given a.told a.mid a.tells) a.faults
