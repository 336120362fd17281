use Rattle.std.proofs.Common.{length, ap, sym, ◌∙◌}
use Rattle.ut_l2.specs.Delta.{Delta}
use Rattle.ut_table.specs.Contents.{TableValue, closed_rows}
use Rattle.ut_table.proofs.CodedLemmas.{all-codes}
use Rattle.ut_table.proofs.table.Table.codes.Goals as goal

pub returns-in-Some-clause-codes : goal.returns-in-Some-clause-codes
returns-in-Some-clause-codes c =
    all-codes c.self.invariant (ap (λ (v : TableValue). v.stages) c.self.view_is) c.args.column c.open_codes-open.result c.len.result c.closed.result.now.rows
    (ap (λ (d : Delta). d.rows) c.closed.ensures ∙ sym (ap closed_rows c.in-Some.is)) c.open_codes-open.ensures.codes (c.len.ensures ∙ ap length c.dict.ensures.keys)
