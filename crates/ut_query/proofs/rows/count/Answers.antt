use Rattle.std.proofs.lemmas.Result.{IfOk-weaker}
use Rattle.ut_query.proofs.RowLemmas.{count_shows, once, preds_below}
use Rattle.ut_query.proofs.rows.count.Goals as goal

pub count-requires-clause-columns : goal.count-requires-clause-columns
count-requires-clause-columns c = preds_below c.args.look.now c.args.rows.now c.index-look-rows.result c.requires.looks c.requires.asked c.as_slice.result.now c.as_slice.ensures.value

pub count-requires-clause-once : goal.count-requires-clause-once
count-requires-clause-once c = once c.args.look.now c.args.rows.now c.index-look-rows.result c.requires.looks c.requires.asked

pub returns : goal.returns
returns c =
    IfOk-weaker c.count.result _ _
    (λ count h. count_shows c.args.look.now c.args.rows.now c.index-look-rows.result c.requires.looks c.requires.asked c.as_slice.result.now count c.as_slice.ensures.value h)
    c.count.ensures
