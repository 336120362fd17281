use Rattle.std.proofs.Common.{◌≡◌, ◌∙◌, ◌&&◌, ◌++◌, OnOk, length, map, filter, ap, sym, subst}
use Rattle.std.specs.List.{range_with_len}
use Rattle.ut_l2.specs.Delta.{Delta}
use Rattle.ut_scan.specs.declared.probe.DeltaStage.{DeltaStage}
use Rattle.ut_scan.specs.Finds.{found_at, is_hit, meets_at}
use Rattle.ut_scan.specs.Probes.{finds, place_in}
use Rattle.ut_scan.proofs.PickLemmas.{same-filter}
use Rattle.ut_scan.proofs.delta.scan_delta.Goals as goal

pub returns-in-Eq : goal.returns-in-Eq
returns-in-Eq c =
    let rows = c.args.l2.now.rows in
    let pred = c.index-preds-k.result in
    let rest = finds c.around-probe.result in
    let inside = c.around-probe.result.l2.now.rows in
    let hit = is_hit c.args.asked.now.snapshot.fates.now c.args.asked.now.snapshot.at c.args.asked.now.snapshot.own c.args.asked.now.preds.now rows c.args.stamps.now in
    subst (λ l. OnOk c.scan_equal.result (c.scan_equal.new.out.items ≡ c.args.out.now.items ++ l))
    (ap (λ (s : DeltaStage). map (found_at (place_in s) inside) (filter (λ i. meets_at pred inside i && rest i) (range_with_len 0 (length inside)))) c.around-probe.ensures.stage
    ∙ ap (λ (d : Delta). map (found_at (place_in c.args.stage) d.rows) (filter (λ i. meets_at pred d.rows i && rest i) (range_with_len 0 (length d.rows)))) c.around-probe.ensures.rows
    ∙ ap (map (found_at (place_in c.args.stage) rows)) (sym (same-filter hit (λ i. meets_at pred rows i && rest i) 0 (length rows)
    (λ i. c.around-probe.ensures.rest pred i ∙ ap (λ q. meets_at q rows i && rest i) (sym c.index-preds-k.is)))))
    c.scan_equal.ensures

pub returns-in_ok-marks-in_default-op : goal.returns-in_ok-marks-in_default-op
returns-in_ok-marks-in_default-op c =
    let rows = c.args.l2.now.rows in
    let pred = c.index-preds-k.result in
    let rest = finds c.around-probe.result in
    let inside = c.around-probe.result.l2.now.rows in
    let hit = is_hit c.args.asked.now.snapshot.fates.now c.args.asked.now.snapshot.at c.args.asked.now.snapshot.own c.args.asked.now.preds.now rows c.args.stamps.now in
    subst (λ l. OnOk c.scan_marked.result (c.scan_marked.new.out.items ≡ c.args.out.now.items ++ l))
    (ap (λ (s : DeltaStage). map (found_at (place_in s) inside) (filter (λ i. meets_at pred inside i && rest i) (range_with_len 0 (length inside)))) c.around-probe.ensures.stage
    ∙ ap (λ (d : Delta). map (found_at (place_in c.args.stage) d.rows) (filter (λ i. meets_at pred d.rows i && rest i) (range_with_len 0 (length d.rows)))) c.around-probe.ensures.rows
    ∙ ap (map (found_at (place_in c.args.stage) rows)) (sym (same-filter hit (λ i. meets_at pred rows i && rest i) 0 (length rows)
    (λ i. c.around-probe.ensures.rest pred i ∙ ap (λ q. meets_at q rows i && rest i) (sym c.index-preds-k.is)))))
    c.scan_marked.ensures
