use Rattle.std.proofs.Common.{◌∙◌, ◌<◌, ◌++◌, length, ap, arith}
use Rattle.ut_scan.specs.StageRows.{found_in_part}
use Rattle.ut_scan.proofs.MainLemmas.{probe-seen, parts-more}
use Rattle.ut_scan.proofs.parts.scan_parts.Goals as goal

pub loop-number-preserved : goal.loop-number-preserved
loop-number-preserved g c =
    let snapshot = c.args.snapshot.now in
    let stamps = c.args.stamps.now.parts in
    let there : c.loop-number.number < length c.args.main.now.parts = omega (arith, c.loop-number-test.true, c.parts-number-end.ensures.count) in
    let seen = probe-seen snapshot c.as_slice.result.now c.args.main.now stamps c.loop-number.number c.of-probe.result c.of-probe.ensures there c.args.preds.now c.in_ok-coded.coded.items c.as_slice.ensures.value c.in_ok-coded.ensures.coded
    c.requires.columns in
    parts-more (found_in_part snapshot.fates.now snapshot.at snapshot.own c.args.preds.now c.args.main.now.parts stamps) c.args.out.now.items c.loop-number.out.items c.append.new.out.items c.loop-number.number c.loop-number.invariant
    (c.in_ok-append.ensures ∙ ap (λ l. c.loop-number.out.items ++ l) seen)
