use Rattle.std.proofs.Common.{◌∙◌, ◌<◌, ◌≡◌, ◌+◌, length, ap, refl, arith}
use Rattle.ut_scan.specs.StageRows.{found_in_part}
use Rattle.ut_scan.proofs.CountLemmas.{parts-counted}
use Rattle.ut_scan.proofs.MainLemmas.{probe-seen}
use Rattle.ut_scan.proofs.part_count.count_parts.Goals as goal

pub loop-number-preserved : goal.loop-number-preserved
loop-number-preserved g c =
    let snapshot = c.args.snapshot.now in
    let main = c.args.main.now in
    let stamps = c.args.stamps.now.parts in
    let there : c.loop-number.number < length c.args.main.now.parts = omega (arith, c.loop-number-test.true, c.parts-number-end.ensures.count) in
    let seen = probe-seen snapshot c.as_slice.result.now main stamps c.loop-number.number c.of-probe.result c.of-probe.ensures there c.args.preds.now c.in_ok-coded.coded.items c.as_slice.ensures.value c.in_ok-coded.ensures.coded c.requires.columns in
    let more = c.from-count.result in
    let same : c.from-count.result ≡ c.in_ok-more.more = grind arith in
    record {
      counted = parts-counted (found_in_part snapshot.fates.now snapshot.at snapshot.own c.args.preds.now main.parts stamps) c.loop-number.count more (c.loop-number.count + more) c.loop-number.number c.loop-number.invariant.counted
          (same ∙ c.in_ok-more.ensures ∙ ap length seen) refl;
      few = omega arith;
    }
