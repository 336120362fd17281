use Rattle.std.proofs.Common.{◌≡◌, ◌∙◌, ◌<◌, ◌&&◌, ℕ, length, ap, sym, arith}
use Rattle.ut_scan.specs.Finds.{found_at, meets_at}
use Rattle.ut_scan.specs.Probes.{finds, place_in}
use Rattle.ut_scan.proofs.FindLemmas.{one-found, none-found}
use Rattle.ut_scan.proofs.PickLemmas.{mark-tells}
use Rattle.ut_scan.proofs.delta.scan_marked.Goals as goal
use Rattle.ut_scan.proofs.delta.scan_marked.Goals.{then-is_marked_find+in_ok-push, else-is_marked_find}

pub loop-i-preserved : goal.loop-i-preserved
loop-i-preserved c =
    let rows = c.args.probe.now.l2.now.rows in
    let pred = c.args.pred.now in
    let rest = finds c.args.probe.now in
    let found = found_at (place_in c.args.probe.now.stage) rows in
    let test = λ (i : ℕ). meets_at pred rows i && rest i in
    let i = c.loop-i.i in
    let lr : c.loop-i.i < length c.args.probe.now.l2.now.rows = omega (arith, c.len-i-end.ensures, c.loop-i-test.true) in
    let mark = mark-tells pred rows c.codes-codes.result.now c.args.marks.now i c.requires.marks c.codes-codes.ensures.keys c.codes-codes.ensures.within lr in
    let tells : test i ≡ c.is_marked_find.result = ap (λ b. b && rest i) (sym mark) ∙ sym c.is_marked_find.ensures in
    elim c.if-is_marked_find.branch [
      | then-is_marked_find+in_ok-push w ↦ ap (λ v. v.items) w.out-is ∙ w.in_ok-push.ensures.items ∙ one-found found test i c.loop-i.out.items c.args.out.now.items c.loop-i.invariant w.found.result w.found.ensures (tells ∙ w.if-is_marked_find.true)
      | else-is_marked_find w ↦ ap (λ v. v.items) w.out-is ∙ none-found found test i c.loop-i.out.items c.args.out.now.items c.loop-i.invariant (tells ∙ w.if-is_marked_find.false)
    ]
