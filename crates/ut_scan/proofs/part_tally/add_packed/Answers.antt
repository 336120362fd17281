use Rattle.std.proofs.Common.{◌<◌, length, subst, arith}
use Rattle.std.proofs.lemmas.List.{take_all}
use Rattle.ut_scan.specs.Tallies.{AreMore}
use Rattle.ut_scan.proofs.TallyLemmas.{list-count, list-room, more-take}
use Rattle.ut_scan.proofs.part_tally.add_packed.Goals as goal

pub loop-i-init : goal.loop-i-init
loop-i-init c = c.add_eights-start.ensures.counts

pub add_code-requires-clause-there : goal.add_code-requires-clause-there
add_code-requires-clause-there c =
    let lt : c.loop-i.i < length c.args.codes.now.codes = omega (arith, c.loop-i-test.true, c.len-i-end.ensures.len) in
    list-count c.args.codes.now.codes c.args.counts.now c.loop-i.counts c.loop-i.i c.get.result c.requires.there c.loop-i.invariant lt c.get.ensures

pub add_code-requires-clause-few : goal.add_code-requires-clause-few
add_code-requires-clause-few c =
    let lt : c.loop-i.i < length c.args.codes.now.codes = omega (arith, c.loop-i-test.true, c.len-i-end.ensures.len) in
    list-room c.args.codes.now.codes c.args.counts.now c.loop-i.counts c.loop-i.i c.get.result c.requires.few c.loop-i.invariant lt

pub loop-i-preserved : goal.loop-i-preserved
loop-i-preserved c =
    let lt : c.loop-i.i < length c.args.codes.now.codes = omega (arith, c.loop-i-test.true, c.len-i-end.ensures.len) in
    more-take c.args.codes.now.codes c.args.counts.now c.loop-i.counts c.add_code.new.counts c.loop-i.i c.get.result lt c.get.ensures c.loop-i.invariant c.add_code.ensures

pub returns : goal.returns
returns c =
    subst (λ l. AreMore l c.args.counts.now c.loop-i.counts) (take_all c.loop-i.i c.args.codes.now.codes (omega (arith, c.loop-i-test.false, c.len-i-end.ensures.len))) c.loop-i.invariant
