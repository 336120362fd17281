-- What a question is answered, at a length of the journal.
use Rattle.std.specs.Prelude.{ℕ, ◌≡◌, List, ◌++◌, None}
use Rattle.ut_value.specs.declared.entry.Entry.{Entry}
use Rattle.ut_plain.specs.declared.statement.Query.{Query}
use Rattle.ut_plain.specs.declared.statement.Statement.TheVariants.{Ask}
use Rattle.ut_plain.specs.Journal.{Journal, journal_len, current, state_at}
use Rattle.ut_plain.specs.Plain.{Plain, open_at}
use Rattle.ut_plain.specs.Step.{step}
use Rattle.ut_shot.specs.Answered.{answered}

-- a session outside a transaction is answered by the state of the whole journal
abbrev pub AskedOutside : Type 0
AskedOutside = (p : Plain) (session : ℕ) (query : Query) → open_at p.sessions session ≡ None → (step p session (Ask query)).reply ≡ answered (current p.journal) query

-- whatever is appended, the state at a length stays, and with it each answer there
abbrev pub AnswersStay : Type 0
AnswersStay = (j : Journal) (more : List Entry) (query : Query)
    → answered (state_at (record j { entries = j.entries ++ more }) (journal_len j)) query ≡ answered (current j) query
