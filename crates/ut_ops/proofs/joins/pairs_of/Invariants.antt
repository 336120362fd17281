use Rattle.std.proofs.Common.{◌≡◌, ◌++◌, drop}
use Rattle.std.specs.List.{flat_map}
use Rattle.ut_ops.specs.Fit.{cell}
use Rattle.ut_ops.specs.Index.{listed}
use Rattle.ut_ops.proofs.PairLemmas.{repeated}
use Rattle.ut_ops.proofs.joins.pairs_of.Given as goal

-- those so far and those that are left are all
abbrev pub invariant-loop-row : goal.invariant-loop-row
invariant-loop-row l = record {
  lefts : l.pairs.lefts.items ++ flat_map (λ f. repeated f (listed l.index (cell l.left.stages l.column f))) (drop l.row l.hits) ≡ flat_map (λ f. repeated f (listed l.index (cell l.left.stages l.column f))) l.hits;
  rights : l.pairs.rights.items ++ flat_map (λ f. listed l.index (cell l.left.stages l.column f)) (drop l.row l.hits) ≡ flat_map (λ f. listed l.index (cell l.left.stages l.column f)) l.hits;
}
