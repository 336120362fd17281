use Rattle.std.proofs.Common.{◌≡◌, ◌∙◌, ◌<◌, ◌&&◌, length, map, get_or, sym, ap}
use Rattle.std.proofs.lemmas.List.{get_or-map}
use Rattle.ut_stamps.specs.Stamps.{sees}
use Rattle.ut_l2.specs.KeyRows.{keyed, no_row, KeyRow}
use Rattle.ut_scan.specs.declared.place.Found.{Found}
use Rattle.ut_stamps.specs.declared.place.Place.TheVariants.{L1}
use Rattle.ut_scan.specs.Finds.{passes, found_at, is_hit}
use Rattle.ut_stamps.specs.StampLists.{no_stamp}
use Rattle.ut_scan.proofs.FindLemmas.{one-found, none-found}
use Rattle.ut_scan.proofs.rows.scan_rows.Goals as goal
use Rattle.ut_scan.proofs.rows.scan_rows.Goals.{then-is_hit+in_ok-push, else-is_hit}

pub loop-i-preserved : goal.loop-i-preserved
loop-i-preserved c =
    let rows = map keyed c.args.rows.now in
    let i = c.loop-i.i in
    let test = is_hit c.args.snapshot.now.fates.now c.args.snapshot.now.at c.args.snapshot.now.own c.args.preds.now rows c.args.stamps.now in
    let found = found_at L1 rows in
    let lt : c.loop-i.i < length c.args.rows.now = c.loop-i-test.true in
    let row : get_or rows i no_row ≡ keyed c.index-rows-i.result = get_or-map keyed c.args.rows.now i c.index-rows-i.result no_row lt ∙ ap keyed (sym c.index-rows-i.is) in
    let tells : test i ≡ c.is_hit.result = ap (λ r. passes c.args.preds.now r && sees c.args.snapshot.now.fates.now c.args.snapshot.now.at c.args.snapshot.now.own (get_or c.args.stamps.now i no_stamp)) row ∙ sym c.is_hit.ensures in
    let made : KeyRow → Found = λ r. record { id = r.id; place = L1 i } in
    elim c.if-is_hit.branch [
      | then-is_hit+in_ok-push w ↦ ap (λ v. v.items) w.out-is ∙ w.in_ok-push.ensures.items ∙ one-found found test i c.loop-i.out.items c.args.out.now.items c.loop-i.invariant (made (keyed c.index-rows-i.result)) (ap made (sym row)) (tells ∙ w.if-is_hit.true)
      | else-is_hit w ↦ ap (λ v. v.items) w.out-is ∙ none-found found test i c.loop-i.out.items c.args.out.now.items c.loop-i.invariant (tells ∙ w.if-is_hit.false)
    ]
