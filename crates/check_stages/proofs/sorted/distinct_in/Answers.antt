use Rattle.std.proofs.Common.{◌≡◌, ◌+◌, ◌-◌, ◌<◌, Bool, true, false, drop, length, get_or, sym, ◌∙◌, arith}
use Rattle.std.proofs.lemmas.Grind.{common_steps}
use Rattle.check_stages.proofs.SortedLemmas.{is_among, distinct-again, distinct-new}
use Rattle.check_stages.proofs.sorted.distinct_in.Goals as goal

pub loop-at-preserved-then-not-is_among : goal.loop-at-preserved-then-not-is_among
loop-at-preserved-then-not-is_among c =
    let among : is_among c.args.column c.index-places-at.result (drop c.loop-at.at c.args.places.now) ≡ false = grind (arith, common_steps) in
    let few = c.loop-at.invariant.few in
    record {
      count = distinct-new c.args.column c.args.places.now (c.loop-at.at - 1) c.loop-at.at c.index-places-at.result c.loop-at.count (omega arith) (omega arith) c.index-places-at.is among c.loop-at.invariant.count;
      few = omega (arith, few);
    }

pub loop-at-preserved : goal.loop-at-preserved
loop-at-preserved c =
    let among : is_among c.args.column c.index-places-at.result (drop c.loop-at.at c.args.places.now) ≡ true = grind (arith, common_steps) in
    let few = c.loop-at.invariant.few in
    record {
      count = distinct-again c.args.column c.args.places.now (c.loop-at.at - 1) c.loop-at.at c.index-places-at.result c.loop-at.count (omega arith) (omega arith) c.index-places-at.is among c.loop-at.invariant.count;
      few = omega (arith, few);
    }
