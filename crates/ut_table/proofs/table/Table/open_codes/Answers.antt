use Rattle.std.proofs.Common.{length, ap, ◌∙◌}
use Rattle.ut_table.specs.Contents.{TableValue}
use Rattle.ut_table.proofs.CodedLemmas.{open-codes}
use Rattle.ut_table.proofs.table.Table.open_codes.Goals as goal

pub returns-clause-codes : goal.returns-clause-codes
returns-clause-codes c =
    open-codes c.self.invariant (ap (λ (v : TableValue). v.stages) c.self.view_is) c.args.column c.main_codes.result c.len.result c.deref.result.now c.deref.ensures c.main_codes.ensures.codes
    (c.len.ensures ∙ ap length c.dict.ensures.keys)
