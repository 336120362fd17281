-- The codes of a column, as they are gathered from a job's lists.
use Rattle.std.specs.Prelude.{ℕ, List, map}
use Rattle.ut_l2.specs.KeyRows.{cells_at}
use Rattle.ut_merge.specs.declared.gathering.Sources.{Sources}
use Rattle.ut_merge.specs.declared.old.Old.{Old}
use Rattle.ut_merge.specs.Jobs.{row_of}
use Rattle.ut_merge.specs.Columns.{codes_in, laid_keys, AreCoded, AreSources}

-- the codes of a column in the lists that are rebuilt
abbrev pub HasCodes : Sources → Type 0
HasCodes s = AreSources s.job.now s.column s.stay (codes_in s.parts.items) s.closed.now s.first

-- the codes of the rows at old places
abbrev pub AreGathered : Sources → List Old → List ℕ → Type 0
AreGathered s olds codes = AreCoded (laid_keys s.job.now s.column) (cells_at s.column (map (row_of s.job.now) olds)) codes
