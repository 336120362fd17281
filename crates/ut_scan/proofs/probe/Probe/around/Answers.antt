use Rattle.std.proofs.Common.{◌≡◌, ◌∙◌, ◌+◌, ◌&&◌, suc, get_or, drop, ap, sym, arith}
use Rattle.ut_stamps.specs.Stamps.{sees}
use Rattle.ut_l2.specs.KeyRows.{no_row}
use Rattle.ut_stamps.specs.StampLists.{no_stamp}
use Rattle.ut_scan.specs.Finds.{passes, meets_at}
use Rattle.ut_scan.proofs.PickLemmas.{passes-around}
use Rattle.ut_scan.proofs.probe.Probe.around.Goals as goal

pub returns-clause-rest : goal.returns-clause-rest
returns-clause-rest c = λ pred i.
    let preds = c.args.preds.now in
    let rows = c.args.l2.now.rows in
    let row = get_or rows i no_row in
    let s = sees c.args.snapshot.now.fates.now c.args.snapshot.now.at c.args.snapshot.now.own (get_or c.args.stamps.now i no_stamp) in
    let m = meets_at (get_or preds c.args.k pred) rows i in
    let e : suc c.args.k ≡ c.args.k + 1 = omega arith in
    passes-around preds c.args.k pred row s c.requires.index
    ∙ ap (λ l. m && ((passes l row && passes (drop (suc c.args.k) preds) row) && s)) (sym c.split_at.ensures.front)
    ∙ ap (λ l. m && ((passes c.split_at.result.0.now row && passes l row) && s)) (ap (λ n. drop n preds) e ∙ sym c.split_at-2.ensures.back)
