use Rattle.std.proofs.Common.{sym}
use Rattle.ut_rows.proofs.ColumnLemmas.{rows_by_columns, count_is}
use Rattle.ut_rows.proofs.rows.Rows.len.Goals as goal

pub returns-in-Columns : goal.returns-in-Columns
returns-in-Columns c = sym (count_is c.in-Columns.len c.in-Columns.columns.items c.args.self.now (rows_by_columns c.self.inside.form c.in-Columns.len c.in-Columns.columns c.args.self.now c.self.view_is c.in-Columns.is))
