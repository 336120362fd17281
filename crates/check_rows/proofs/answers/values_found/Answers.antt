use Rattle.std.proofs.Common.{ap, ◌∙◌}
use Rattle.ut_plain.specs.Tables.{columns_in}
use Rattle.ut_plain.specs.Condition.{found}
use Rattle.ut_plain.specs.Query.{column_values}
use Rattle.check_rows.proofs.answers.values_found.Goals as goal

pub returns : goal.returns
returns c =
    let columns = c.columns_in-columns.ensures ∙ ap (columns_in c.args.tables.now) c.as_slice.ensures.bytes in
    let hits = c.as_slice-4.ensures.value ∙ (c.in_ok-hits.ensures ∙ ap (λ n. found c.args.tables.now c.args.rows.now n c.args.preds.now) c.as_slice-2.ensures.bytes) in
    c.in_ok-values.ensures ∙ (λ i. column_values (columns i) (c.as_slice-3.ensures.bytes i) (hits i))
