use Rattle.std.proofs.Common.{◌≡◌, length, sym, ◌∙◌, arith}
use Rattle.std.specs.Prelude.{vec_len}
use Rattle.ut_rows.specs.Columns.{rows_of}
use Rattle.ut_rows.proofs.ColumnLemmas.{rows_by_columns, row_below, width_is}
use Rattle.ut_rows.proofs.rows.Rows.width.Goals as goal

pub returns-in-Columns : goal.returns-in-Columns
returns-in-Columns c =
    let rows = c.args.self.now in
    let columns = c.in-Columns.columns.items in
    let long : vec_len c.in-Columns.columns ≡ length columns = omega (arith, c.in-Columns.columns.ok.0) in
    let is : rows ≡ rows_of c.in-Columns.len columns = rows_by_columns c.self.inside.form c.in-Columns.len c.in-Columns.columns rows c.self.view_is c.in-Columns.is in
    c.len-in-Columns.ensures ∙ long ∙ sym (width_is c.in-Columns.len columns rows c.args.row is (row_below c.in-Columns.len columns rows c.args.row is c.requires))
