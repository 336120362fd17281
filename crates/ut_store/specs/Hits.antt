-- What a session finds.
use Rattle.std.specs.Prelude.{ℕ, Bool, List, Option}
use Rattle.ut_value.specs.declared.value.Value.{Value}
use Rattle.ut_plain.specs.declared.table.Stored.{Stored}
use Rattle.ut_stamps.specs.declared.place.Place.{Place}
use Rattle.ut_tables.specs.Finds as seen
use Rattle.ut_store.specs.Held.{Held}
use Rattle.ut_store.specs.Reads.{looks_at, own_at}

-- by ascending id, the places of a table whose rows the session sees and which pass a test
abbrev pub Hits : Held → ℕ → ℕ → (List Value → Bool) → List (ℕ × Place) → Type 0
Hits e session n test hits = seen.Hits e.rows (looks_at e session) (own_at e session) n test hits

-- the rows in places, as the plain store has them
abbrev pub plain_rows : Held → ℕ → List (ℕ × Place) → List (ℕ × Stored)
plain_rows e n hits = seen.plain_rows e.rows n hits

-- the first of these rows that another transaction deleted behind the session's back, or is about to
abbrev pub first_taken_of : Held → ℕ → ℕ → List (ℕ × Place) → Option ℕ
first_taken_of e session n hits = seen.first_taken_of e.rows (looks_at e session) (own_at e session) n hits
