use Rattle.std.proofs.Common.{◌∙◌, ap}
use Rattle.std.specs.Arc.{arc_value}
use Rattle.ut_main.specs.Columns.{ColumnValue, vector_of}
use Rattle.ut_main.proofs.ColumnLemmas.{column-vector}
use Rattle.ut_main.proofs.column.CodedColumn.codes.Goals as goal

pub returns : goal.returns
returns c = column-vector (arc_value c.self.inside.dict) c.self.inside.chain c.self.inside.codes c.self.invariant ∙ ap (λ (v : ColumnValue). vector_of v.before v.cells) c.self.view_is
