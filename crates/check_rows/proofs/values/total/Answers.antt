use Rattle.std.proofs.Common.{◌≡◌, arith, ap, ◌∙◌}
use Rattle.std.proofs.lemmas.Int.{ints, to_z-of_z}
use Rattle.ut_plain.specs.Query.{number_of}
use Rattle.check_rows.proofs.ValueLemmas.{total_step}
use Rattle.check_rows.proofs.values.total.Goals as goal

pub loop-value-preserved : goal.loop-value-preserved
loop-value-preserved c =
    let same : c.from-sum.result ≡ c.number_of.result = grind (arith, ints, to_z-of_z) in
    let step = total_step _ c.from-sum.result _ c.args.values.now c.loop-value.value-index c.value-item.result (omega arith) (same ∙ (c.number_of.ensures ∙ ap number_of c.value-item.is)) c.loop-value.invariant.sum in
    record { sum = grind (arith, ints, to_z-of_z, step); low = omega (arith, ints); high = omega (arith, ints) }
