use Rattle.std.proofs.Common.{◌∙◌, ap}
use Rattle.ut_table.specs.Contents.{TableValue}
use Rattle.ut_table.proofs.SizeLemmas.{parts-are}
use Rattle.ut_table.proofs.table.Table.part_count.Goals as goal

pub returns-clause-count : goal.returns-clause-count
returns-clause-count c = c.parts.ensures.count ∙ parts-are c.self.invariant (ap (λ (v : TableValue). v.stages) c.self.view_is)
