use Rattle.std.proofs.Common.{◌≡◌, length, map, take}
use Rattle.ut_prefix.specs.Chain.{shared_dicts}
use Rattle.ut_merge.proofs.arranging.counts_of.Given as goal

abbrev pub invariant-loop-dict : goal.invariant-loop-dict
invariant-loop-dict l = l.counts.items ≡ map length (take l.dict-index (shared_dicts l.dicts))
