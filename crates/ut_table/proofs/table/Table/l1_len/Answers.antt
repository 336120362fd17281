use Rattle.std.proofs.Common.{◌∙◌, ap}
use Rattle.ut_table.specs.Contents.{TableValue}
use Rattle.ut_table.proofs.ReadLemmas.{l1-count, few-staged}
use Rattle.ut_table.proofs.table.Table.l1_len.Goals as goal

pub returns-clause-len : goal.returns-clause-len
returns-clause-len c = c.len.ensures.len ∙ l1-count c.self.invariant (ap (λ (v : TableValue). v.stages) c.self.view_is)

pub returns-clause-few : goal.returns-clause-few
returns-clause-few c = few-staged c.self.invariant (ap (λ (v : TableValue). v.stages) c.self.view_is)
