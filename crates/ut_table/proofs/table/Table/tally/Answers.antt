use Rattle.std.proofs.Common.{length, ap, arith}
use Rattle.ut_staged.specs.Staged.{Staged}
use Rattle.ut_table.proofs.LentLemmas.{lent-asked, lent-width, lent-tallied}
use Rattle.ut_table.proofs.TallyLemmas.{both-ok}
use Rattle.ut_table.proofs.table.Table.tally.Goals as goal

pub counted_tally-requires-clause-asked : goal.counted_tally-requires-clause-asked
counted_tally-requires-clause-asked c = lent-asked c.stages-stages.ensures c.of-asked.ensures c.requires.columns

pub counted_tally-requires-clause-column : goal.counted_tally-requires-clause-column
counted_tally-requires-clause-column c =
    let lent = c.stages-stages.ensures in
    omega (arith, c.requires.column, lent-width lent, ap (λ (x : Staged). length x.columns) lent.view)

pub returns-clause-tally : goal.returns-clause-tally
returns-clause-tally c =
    both-ok c.counted_tally.result
    (λ t told is asked compiles. lent-tallied c.stages-stages.ensures c.of-asked.ensures c.requires.once asked compiles c.args.column c.requires.column t.counts.items t.rest.items told is)
    c.counted_tally.ensures.counts c.counted_tally.ensures.rest
