use Rattle.std.proofs.Common.{arith}
use Rattle.std.proofs.lemmas.Int.{ints, to_z-of_z}
use Rattle.ut_ops.proofs.GatherLemmas.{tallies-take}
use Rattle.ut_ops.proofs.groups.gather_by.Goals as goal

pub loop-hit-preserved : goal.loop-hit-preserved
loop-hit-preserved c =
    let added = c.in_ok-add_to.ensures in
    record {
      noted = c.noted_number-number.ensures.noted;
      marks = added.marked;
      few = added.few c.loop-hit.hit-index c.loop-hit.invariant.few;
      sums = tallies-take c.args.table.now.stages c.args.key c.args.sum c.args.hits.now c.loop-hit.hit-index _ c.noted_number-number.result _ _ _ _ c.loop-hit-test.true c.noted_number-number.ensures.number added c.loop-hit.invariant.sums (grind (arith, ints, to_z-of_z));
    }
