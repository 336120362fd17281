use Rattle.std.proofs.lemmas.Result.{IfOk-weaker}
use Rattle.ut_query.proofs.RowLemmas.{once, preds_below, read, tally_shows}
use Rattle.ut_query.proofs.rows.tally.Goals as goal

pub tally-requires-clause-columns : goal.tally-requires-clause-columns
tally-requires-clause-columns c = preds_below c.args.look.now c.args.rows.now c.index-look-rows.result c.requires.looks c.requires.asked c.as_slice.result.now c.as_slice.ensures.value

pub tally-requires-clause-once : goal.tally-requires-clause-once
tally-requires-clause-once c = once c.args.look.now c.args.rows.now c.index-look-rows.result c.requires.looks c.requires.asked

pub tally-requires-clause-column : goal.tally-requires-clause-column
tally-requires-clause-column c = c.requires.column _ (read c.args.look.now c.args.rows.now c.index-look-rows.result c.requires.looks c.requires.asked)

pub returns-clause-tally : goal.returns-clause-tally
returns-clause-tally c =
    IfOk-weaker c.tally.result _ _
    (λ t h. tally_shows c.args.look.now c.args.rows.now c.index-look-rows.result c.requires.looks c.requires.asked c.as_slice.result.now c.args.column t.counts.items t.rest.items c.as_slice.ensures.value h)
    c.tally.ensures.tally
