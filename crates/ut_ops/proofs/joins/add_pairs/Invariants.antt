use Rattle.std.proofs.Common.{◌≡◌, ◌++◌, drop}
use Rattle.ut_ops.proofs.PairLemmas.{repeated}
use Rattle.ut_ops.proofs.joins.add_pairs.Given as goal

-- those so far and those that are left are all
abbrev pub invariant-loop-other : goal.invariant-loop-other
invariant-loop-other l = record {
  lefts : l.pairs.lefts.items ++ repeated l.hit (drop l.other-index l.others) ≡ l.initial.pairs.lefts.items ++ repeated l.hit l.others;
  rights : l.pairs.rights.items ++ drop l.other-index l.others ≡ l.initial.pairs.rights.items ++ l.others;
}
