use Rattle.ut_rows.proofs.ColumnLemmas.{columns_are}
use Rattle.ut_rows.proofs.rows.Rows.columns.Goals as goal

pub returns-in-Columns : goal.returns-in-Columns
returns-in-Columns c =
    let are = columns_are c.self.inside.form c.in-Columns.len c.in-Columns.columns c.args.self.now c.deref.result.now c.self.view_is c.self.invariant c.in-Columns.is c.deref.ensures.value in
    record { rows = are.0; each = are.1 }
