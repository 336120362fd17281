use Rattle.std.proofs.Common.{◌≡◌, ℕ, ◌+◌, ◌*◌, ◌/◌, ◌≤◌, length, take, subst, arith}
use Rattle.ut_scan.specs.Tallies.{AreMore}
use Rattle.ut_scan.proofs.TallyLemmas.{eight-counts, eight-more, eight-room, more-none}
use Rattle.ut_scan.proofs.part_tally.add_eights.Goals as goal

pub loop-k-init : goal.loop-k-init
loop-k-init c = more-none c.args.counts.now

pub add_list-requires-clause-there : goal.add_list-requires-clause-there
add_list-requires-clause-there c = eight-counts c.args.codes.now.codes c.args.counts.now c.loop-k.counts c.eight.result (8 * c.loop-k.k) c.loop-k.invariant c.eight.ensures c.requires.there

pub add_list-requires-clause-few : goal.add_list-requires-clause-few
add_list-requires-clause-few c =
    let within : 8 * c.loop-k.k + 8 ≤ length c.args.codes.now.codes = omega (arith, c.loop-k-test.true, c.len-eights.ensures.len) in
    eight-room c.args.codes.now.codes c.args.counts.now c.loop-k.counts c.eight.result (8 * c.loop-k.k) c.loop-k.invariant c.eight.ensures c.requires.few within

pub loop-k-preserved : goal.loop-k-preserved
loop-k-preserved c = eight-more c.args.codes.now.codes c.args.counts.now c.loop-k.counts c.eight.result (8 * c.loop-k.k) c.loop-k.invariant c.eight.ensures c.add_list.new.counts (8 * (c.loop-k.k + 1)) (omega arith) c.add_list.ensures

pub returns-clause-counts : goal.returns-clause-counts
returns-clause-counts c =
    let all : 8 * c.loop-k.k ≡ 8 * (c.len-eights.result / 8) = omega (arith, c.loop-k-test.false, c.loop-k.auto.k-end) in
    subst (λ (m : ℕ). AreMore (take m c.args.codes.now.codes) c.args.counts.now c.loop-k.counts) all c.loop-k.invariant
