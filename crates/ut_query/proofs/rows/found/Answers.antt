use Rattle.std.proofs.lemmas.Result.{IfOk-weaker}
use Rattle.ut_query.proofs.RowLemmas.{found_shows, once, preds_below}
use Rattle.ut_query.proofs.rows.found.Goals as goal

pub scan-requires-clause-columns : goal.scan-requires-clause-columns
scan-requires-clause-columns c = preds_below c.args.look.now c.args.rows.now c.index-look-rows.result c.requires.looks c.requires.asked c.as_slice.result.now c.as_slice.ensures.value

pub scan-requires-clause-once : goal.scan-requires-clause-once
scan-requires-clause-once c = once c.args.look.now c.args.rows.now c.index-look-rows.result c.requires.looks c.requires.asked

pub returns : goal.returns
returns c =
    IfOk-weaker c.scan.result _ _
    (λ found h. found_shows c.args.look.now c.args.rows.now c.index-look-rows.result c.requires.looks c.requires.asked c.as_slice.result.now found.items c.as_slice.ensures.value h)
    c.scan.ensures
