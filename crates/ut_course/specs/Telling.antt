-- The answers to lines, and how long the journal is after each.
use Rattle.std.specs.Prelude.{ℕ, ◌≡◌, List, [], ◌∷◌, ◌++◌, map}
use Rattle.ut_plain.specs.declared.statement.Parsed.{Parsed}
use Rattle.ut_plain.specs.Journal.{journal_len}
use Rattle.ut_plain.specs.Plain.{Plain}
use Rattle.ut_plain.specs.Transcript.{Answer, AnswersLine, Faults}

-- the answers to a line, none or one, and for each the length of the journal after the line
abbrev pub TellsLine : Plain → Parsed → List Answer → List ℕ → Plain → Type 0
TellsLine p line answers lengths q = AnswersLine p line answers q × (lengths ≡ map (λ (a : Answer). journal_len q.journal) answers)

-- the same of lines, one after the other
abbrev pub Tells : Plain → List Parsed → List Answer → List ℕ → Plain → Type 0
Tells p [] answers lengths q = (answers ≡ []) × (lengths ≡ []) × (q ≡ p)
Tells p (line ∷ lines) answers lengths q =
    (here rest : List Answer) × (now later : List ℕ) × (mid : Plain) × (answers ≡ here ++ rest)
    × (lengths ≡ now ++ later) × TellsLine p line here now mid × Tells mid lines rest later q

-- The lines are answered to the last, and the journal is so long then.
pub record AnswersAll (p : Plain) (lines : List Parsed) (answers : List Answer) (lengths : List ℕ) (journal : ℕ) (q : Plain) : Type 0 where
  pub tells : Tells p lines answers lengths q
  pub length_is : journal ≡ journal_len q.journal

-- The lines are answered to one at which the disk failed: that is the last one, and its length is that before it.
pub record AnswersToFault
    (p : Plain) (lines : List Parsed) (answers : List Answer) (lengths : List ℕ) (journal : ℕ)
    (q : Plain) : Type 0 where
  pub before : List Parsed
  pub line : Parsed
  pub given : List Answer
  pub last : List Answer
  pub told : List ℕ
  pub mid : Plain
  pub lines_are : lines ≡ before ++ line ∷ []
  pub answers_are : answers ≡ given ++ last
  pub lengths_are : lengths ≡ told ++ journal_len mid.journal ∷ []
  pub tells : Tells p before given told mid
  pub faults : Faults mid line last q
  pub length_is : journal ≡ journal_len mid.journal
