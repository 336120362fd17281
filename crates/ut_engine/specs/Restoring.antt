-- What an opened store has of a journal of which its files held a prefix.
use Rattle.std.specs.Prelude.{ℕ}
use Rattle.ut_outside.specs.Disk.{View, IsTold}
use Rattle.ut_plain.specs.Journal.{Journal}
use Rattle.ut_plain.specs.Plain.{Plain}
use Rattle.ut_durable.specs.Journals.{HoldsPrefix}
use Rattle.ut_reading.specs.Restored.{RestoresPrefix}
use Rattle.ut_engine.specs.Logged.{Logged}
use Rattle.ut_engine.specs.Runs.{Runs}

-- Where the files held a prefix of a journal, of at least so many entries, each plain state that the store runs from
-- has the tables, the rows and the counts that the entries of such a prefix left, and as many entries.
abbrev pub Restores : Logged → (before after : View) → Type 0
Restores e before after = IsTold before → (full : Journal) (least : ℕ) → HoldsPrefix full least before.seen
    → (p : Plain) → Runs e after p → RestoresPrefix full least p.journal
