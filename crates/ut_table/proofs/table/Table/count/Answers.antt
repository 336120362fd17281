use Rattle.std.proofs.Common.{◌≡◌, List, length}
use Rattle.std.proofs.lemmas.Result.{IfOk-weaker}
use Rattle.ut_plain.specs.declared.statement.Pred.{Pred}
use Rattle.ut_scan.specs.StageRows.{rows_asked}
use Rattle.ut_plain.specs.Compiled.{Compiles}
use Rattle.ut_table.specs.Finds.{Counts}
use Rattle.ut_table.proofs.LentLemmas.{lent-asked, lent-counts}
use Rattle.ut_table.proofs.table.Table.count.Goals as goal

pub counted_rows-requires-clause-asked : goal.counted_rows-requires-clause-asked
counted_rows-requires-clause-asked c = lent-asked c.stages-stages.ensures c.of-asked.ensures c.requires.columns

pub returns : goal.returns
returns c =
    let s = c.args.self.now.stages in
    IfOk-weaker c.counted_rows.result (λ count. count ≡ length (rows_asked c.of-asked.result c.stages-stages.result))
    (λ count. (asked : List Pred) → Compiles s.columns asked c.args.preds.now → Counts s c.args.snapshot.fates.now c.args.snapshot.at c.args.snapshot.own asked count)
    (λ count is asked compiles. lent-counts c.stages-stages.ensures c.of-asked.ensures c.requires.once asked compiles count is)
    c.counted_rows.ensures
