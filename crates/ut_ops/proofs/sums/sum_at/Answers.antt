use Rattle.std.proofs.Common.{◌≡◌, arith, sym, ap, ◌∙◌}
use Rattle.std.proofs.lemmas.Int.{ints, to_z-of_z}
use Rattle.ut_value.specs.declared.value.Value.TheVariants.{Int}
use Rattle.ut_ops.proofs.SumLemmas.{total_more}
use Rattle.ut_ops.proofs.sums.sum_at.Goals as goal

pub loop-hit-preserved : goal.loop-hit-preserved
loop-hit-preserved c =
    let same : c.from-sum.result ≡ c.noted_number.result = grind (arith, ints, to_z-of_z) in
    let step = total_more _ c.from-sum.result _ c.args.table.now.stages c.args.column c.args.hits.now c.loop-hit.hit-index _ c.loop-hit-test.true (c.noted_number.ensures.number ∙ ap Int (sym same)) c.loop-hit.invariant.sum in
    record { noted = c.noted_number.ensures.noted; sum = grind (arith, ints, to_z-of_z, step); low = omega (arith, ints); high = omega (arith, ints) }
