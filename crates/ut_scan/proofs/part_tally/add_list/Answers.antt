use Rattle.std.proofs.Common.{get_or, refl, subst}
use Rattle.std.proofs.lemmas.List.{take_all}
use Rattle.ut_scan.specs.Tallies.{AreMore}
use Rattle.ut_scan.proofs.TallyLemmas.{list-count, list-room, more-none, more-take}
use Rattle.ut_scan.proofs.part_tally.add_list.Goals as goal

pub loop-code-init : goal.loop-code-init
loop-code-init c = more-none c.args.counts.now

pub add_code-requires-clause-there : goal.add_code-requires-clause-there
add_code-requires-clause-there c = list-count c.args.codes.now c.args.counts.now c.loop-code.counts c.loop-code.code-index (get_or c.args.codes.now c.loop-code.code-index 0) c.requires.there c.loop-code.invariant c.loop-code-test.true refl

pub add_code-requires-clause-few : goal.add_code-requires-clause-few
add_code-requires-clause-few c = list-room c.args.codes.now c.args.counts.now c.loop-code.counts c.loop-code.code-index (get_or c.args.codes.now c.loop-code.code-index 0) c.requires.few c.loop-code.invariant c.loop-code-test.true

pub loop-code-preserved : goal.loop-code-preserved
loop-code-preserved c = more-take c.args.codes.now c.args.counts.now c.loop-code.counts c.add_code.new.counts c.loop-code.code-index (get_or c.args.codes.now c.loop-code.code-index 0) c.loop-code-test.true refl c.loop-code.invariant c.add_code.ensures

pub returns : goal.returns
returns c = subst (λ l. AreMore l c.args.counts.now c.loop-code.counts) (take_all c.loop-code.code-index c.args.codes.now c.loop-code-test.false) c.loop-code.invariant
