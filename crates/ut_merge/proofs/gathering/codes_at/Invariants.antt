use Rattle.std.proofs.Common.{map, take}
use Rattle.ut_l2.specs.KeyRows.{cells_at}
use Rattle.ut_merge.specs.Jobs.{row_of}
use Rattle.ut_merge.specs.Columns.{laid_keys, AreCoded}
use Rattle.ut_merge.proofs.gathering.codes_at.Given as goal

abbrev pub invariant-loop-old : goal.invariant-loop-old
invariant-loop-old l = AreCoded (laid_keys l.sources.job.now l.sources.column) (cells_at l.sources.column (map (row_of l.sources.job.now) (take l.old-index l.olds))) l.codes.items
