-- Which rows the places of a store hold.
use Rattle.std.specs.Prelude.{ℕ, ◌≡◌, List, Some}
use Rattle.ut_value.specs.declared.value.Column.{Column}
use Rattle.ut_plain.specs.declared.table.Table.{Table}
use Rattle.ut_plain.specs.declared.stage.Placed.{Placed}
use Rattle.ut_plain.specs.Tables.{columns_at}
use Rattle.ut_plain.specs.Stages.{Stages, stages_at}
use Rattle.ut_plain.specs.Capture.{StandsAnywhere}
use Rattle.ut_plain.specs.Journal.{current}
use Rattle.ut_plain.specs.Plain.{Plain}
use Rattle.ut_durable.specs.Rules.{IsImageRow}

-- a place holds a row of the table at this number, dead or live: it has an id, and a value of its column's kind in each column
abbrev pub IsRowOf : List Table → ℕ → Placed → Type 0
IsRowOf tables n p = (columns : List Column) → columns_at tables n ≡ Some columns → IsImageRow columns p

-- each place of each table does
abbrev pub HaveRowsOf : List Table → Stages → Type 0
HaveRowsOf tables stages = (n : ℕ) (p : Placed) → StandsAnywhere (stages_at stages n) p → IsRowOf tables n p

-- each place of a plain store does
abbrev pub HasRows : Plain → Type 0
HasRows p = HaveRowsOf (current p.journal).tables p.stages
