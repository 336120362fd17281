use Rattle.std.proofs.Common.{◌≡◌, map, take}
use Rattle.ut_merge.specs.Jobs.{row_of}
use Rattle.ut_merge.proofs.olds.ids_of.Given as goal

abbrev pub invariant-loop-old : goal.invariant-loop-old
invariant-loop-old l = l.ids.items ≡ map (λ old. (row_of l.job old).id) (take l.old-index l.olds)
