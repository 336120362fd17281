use Rattle.std.proofs.Common.{◌∙◌, ◌<◌, ℕ, Option, length, ap, arith}
use Rattle.std.proofs.lemmas.List.Edits.{map_over_more}
use Rattle.std.proofs.Common.{set}
use Rattle.ut_merge.specs.Uniting.{led}
use Rattle.ut_merge.proofs.uniting.lead.Goals as goal

pub loop-i-preserved : goal.loop-i-preserved
loop-i-preserved c =
    let old = c.args.places.now.items in
    let now = c.loop-i.places.items in
    let i = c.loop-i.i in
    let lt : i < length old = omega (arith, c.loop-i-test.true, c.len-i-end.ensures, c.args.places.now.ok.0) in
    ap (λ (o : Option ℕ). set now i o) c.led.ensures ∙ map_over_more (led c.args.to.now) old now i c.index.result.now lt c.loop-i.invariant c.index.ensures
