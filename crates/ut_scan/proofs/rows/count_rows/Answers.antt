use Rattle.std.proofs.Common.{◌∙◌, sym, arith, ◌≡◌, ◌<◌, ◌&&◌, length, map, get_or, ap}
use Rattle.std.proofs.lemmas.List.{get_or-map}
use Rattle.ut_stamps.specs.Stamps.{sees}
use Rattle.ut_l2.specs.KeyRows.{keyed, no_row}
use Rattle.ut_scan.specs.Finds.{passes, is_hit}
use Rattle.ut_stamps.specs.StampLists.{no_stamp}
use Rattle.ut_scan.proofs.CountLemmas.{one-counted, none-counted}
use Rattle.ut_scan.proofs.rows.count_rows.Goals as goal
use Rattle.ut_scan.proofs.rows.count_rows.Goals.{then-is_hit, else-is_hit}

pub loop-i-preserved : goal.loop-i-preserved
loop-i-preserved c =
    let rows = map keyed c.args.rows.now in
    let i = c.loop-i.i in
    let lt : c.loop-i.i < length c.args.rows.now = c.loop-i-test.true in
    let row : get_or rows i no_row ≡ keyed c.index-rows-i.result = get_or-map keyed c.args.rows.now i c.index-rows-i.result no_row lt ∙ ap keyed (sym c.index-rows-i.is) in
    let tells : is_hit c.args.snapshot.now.fates.now c.args.snapshot.now.at c.args.snapshot.now.own c.args.preds.now rows c.args.stamps.now i ≡ c.is_hit.result =
    ap (λ r. passes c.args.preds.now r && sees c.args.snapshot.now.fates.now c.args.snapshot.now.at c.args.snapshot.now.own (get_or c.args.stamps.now i no_stamp)) row ∙ sym c.is_hit.ensures in
    let test = is_hit c.args.snapshot.now.fates.now c.args.snapshot.now.at c.args.snapshot.now.own c.args.preds.now rows c.args.stamps.now in
    let counted = c.loop-i.invariant.counted in
    let within = c.loop-i.invariant.within in
    elim c.if-is_hit.branch [
      | then-is_hit w ↦ record {
        counted = w.count-is ∙ one-counted test c.loop-i.i c.loop-i.count counted (tells ∙ w.if-is_hit.true);
        within = omega (arith, w.count-is, within);
      }
      | else-is_hit w ↦ record {
        counted = w.count-is ∙ none-counted test c.loop-i.i c.loop-i.count counted (tells ∙ w.if-is_hit.false);
        within = omega (arith, w.count-is, within);
      }
    ]
