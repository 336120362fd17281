use Rattle.std.proofs.Common.{◌∙◌, length, ap}
use Rattle.ut_l2.specs.Delta.{Delta}
use Rattle.ut_table.specs.Contents.{TableValue}
use Rattle.ut_table.proofs.ReadLemmas.{l2-count, few-staged}
use Rattle.ut_table.proofs.table.Table.l2_len.Goals as goal

pub returns-clause-len : goal.returns-clause-len
returns-clause-len c = c.len.ensures.len ∙ ap (λ (d : Delta). length d.rows) c.deref.ensures ∙ l2-count c.self.invariant (ap (λ (v : TableValue). v.stages) c.self.view_is)

pub returns-clause-few : goal.returns-clause-few
returns-clause-few c = few-staged c.self.invariant (ap (λ (v : TableValue). v.stages) c.self.view_is)
