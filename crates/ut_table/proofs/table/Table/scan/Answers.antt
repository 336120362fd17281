use Rattle.ut_table.proofs.LentLemmas.{lent-asked, lent-finds}
use Rattle.ut_table.proofs.TallyLemmas.{both-ok}
use Rattle.ut_table.proofs.table.Table.scan.Goals as goal

pub counted_scan-requires-clause-asked : goal.counted_scan-requires-clause-asked
counted_scan-requires-clause-asked c = lent-asked c.stages-stages.ensures c.of-asked.ensures c.requires.columns

pub returns : goal.returns
returns c =
    both-ok c.counted_scan.result
    (λ found rows up asked compiles. lent-finds c.stages-stages.ensures c.of-asked.ensures c.requires.once asked compiles found.items rows up)
    c.counted_scan.ensures.rows c.counted_scan.ensures.ascending
