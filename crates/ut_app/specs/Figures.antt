-- The one line that a run of the benchmark writes.
use Rattle.std.specs.Prelude.{ℕ, ℤ, List, [], ◌∷◌, ◌++◌, length, codes, decimal, Option, None, Some, sum_by}
use Rattle.std.specs.Fmt.{signed_decimal}
use Rattle.std.specs.Option.{unwrap_or}
use Rattle.ut_plain.specs.declared.table.Table.{Table}
use Rattle.ut_plain.specs.State.{State}
use Rattle.ut_plain.specs.Journal.{Journal, current}
use Rattle.ut_plain.specs.Transcript.{Answer}
use Rattle.ut_store.specs.Listed.{listed}
use Rattle.ut_app.specs.declared.figures.Figures.{Figures}
use Rattle.ut_app.specs.declared.tally.Tally.{Tally}
use Rattle.ut_app.specs.Hearing.{tally_of}

-- how many rows the table of a name has in a state
abbrev pub rows_named : State → List ℕ → ℕ
rows_named s name = length (unwrap_or (listed s name) [])

-- how many rows its tables have
abbrev pub rows_of : State → ℕ
rows_of s = sum_by (λ (t : Table). rows_named s t.name) s.tables

-- The numbers of a run: its lines, the commits of the journal, the answers that refuse,
-- the rows of the journal's state, and the sum that the last answer tells.
abbrev pub figures_by : ℕ → Tally → Journal → Figures
figures_by lines tally j = record {
  lines = lines;
  commits = (current j).commits;
  refused = tally.refused;
  rows = rows_of (current j);
  total = tally.total;
}

-- the numbers of a run that gave these answers
abbrev pub figures_of : ℕ → List Answer → Journal → Figures
figures_of lines answers j = figures_by lines (tally_of answers) j

-- a sum in decimal, or that there is none
abbrev pub sum_text : Option ℤ → List ℕ
sum_text None = codes "none"
sum_text (Some n) = signed_decimal n

-- the line
abbrev pub figures_text : Figures → List ℕ
figures_text f =
    codes "bench lines " ++ decimal f.lines ++ codes " commits " ++ decimal f.commits ++ codes " refused "
    ++ decimal f.refused ++ codes " rows " ++ decimal f.rows ++ codes " total " ++ sum_text f.total ++ 10 ∷ []
