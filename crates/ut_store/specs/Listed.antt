-- The rows of a table that the journal has.
use Rattle.std.specs.Prelude.{ℕ, ◌≡◌, List, map, Option}
use Rattle.std.specs.Option.{option_map}
use Rattle.std.specs.FinMap as finmap
use Rattle.ut_value.specs.declared.value.Row.{Row}
use Rattle.ut_plain.specs.State.{State}
use Rattle.ut_plain.specs.Rows.{table_rows}
use Rattle.ut_plain.specs.Tables.{place_of}
use Rattle.ut_plain.specs.Journal.{current}
use Rattle.ut_plain.specs.Plain.{Plain}
use Rattle.ut_tables.specs.Finds.{row_of}
use Rattle.ut_store.specs.Held.{Held}
use Rattle.ut_store.specs.Stands.{StandsFor}

-- the rows of the table of a name in a state, by ascending id, where there is such a table
abbrev pub listed : State → List ℕ → Option (List Row)
listed s name = option_map (λ n. map row_of (table_rows n (finmap.entries s.rows))) (place_of s.tables name)

-- they are those of the state of the whole journal, whatever plain state the store stands for
pub record Lists (e : Held) (name : List ℕ) (rows : Option (List Row)) : Type 0 where
  pub each : (p : Plain) → StandsFor e p → rows ≡ listed (current p.journal) name
