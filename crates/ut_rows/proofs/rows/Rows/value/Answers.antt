use Rattle.std.proofs.Common.{◌≡◌, ◌<◌, ℕ, length, sym, subst, ap, ◌∙◌, arith}
use Rattle.std.specs.Prelude.{vec_len}
use Rattle.ut_rows.specs.Columns.{rows_of}
use Rattle.ut_rows.specs.Form.{rows_in}
use Rattle.ut_rows.proofs.ColumnLemmas.{rows_by_columns, row_below, column_below, column_reaches, value_is, list_value}
use Rattle.ut_rows.proofs.rows.Rows.value.Goals as goal

pub index-requires : goal.index-requires
index-requires c =
    let long : vec_len c.in-Columns.columns ≡ length c.in-Columns.columns.items = omega (arith, c.in-Columns.columns.ok.0) in
    let is : c.args.self.now ≡ rows_of c.in-Columns.len c.in-Columns.columns.items = rows_by_columns c.self.inside.form c.in-Columns.len c.in-Columns.columns c.args.self.now c.self.view_is c.in-Columns.is in
    subst (λ (n : ℕ). c.args.column < n) (sym long) (column_below c.in-Columns.len c.in-Columns.columns.items c.args.self.now c.args.row c.args.column is c.requires.row c.requires.column)

pub value-requires : goal.value-requires
value-requires c =
    let is : c.args.self.now ≡ rows_of c.in-Columns.len c.in-Columns.columns.items = rows_by_columns c.self.inside.form c.in-Columns.len c.in-Columns.columns c.args.self.now c.self.view_is c.in-Columns.is in
    let inside : c.args.column < length c.in-Columns.columns.items = column_below c.in-Columns.len c.in-Columns.columns.items c.args.self.now c.args.row c.args.column is c.requires.row c.requires.column in
    subst (λ (n : ℕ). c.args.row < n) (sym (column_reaches c.self.inside.form c.in-Columns.len c.in-Columns.columns c.args.column c.index.result.now c.self.invariant c.in-Columns.is inside c.index.ensures))
    (row_below c.in-Columns.len c.in-Columns.columns.items c.args.self.now c.args.row is c.requires.row)

pub returns-in-Lists : goal.returns-in-Lists
returns-in-Lists c =
    list_value c.args.self.now c.in-Lists.rows c.as_slice.result.now c.index-as_slice-row.result c.as_slice-in-Lists.result.now c.args.row c.args.column c.index-as_slice-column.result
    (sym c.self.view_is ∙ ap rows_in c.in-Lists.is) c.as_slice.ensures c.index-as_slice-row.is c.as_slice-in-Lists.ensures c.index-as_slice-column.is c.requires.row c.requires.column

pub returns-in-Columns : goal.returns-in-Columns
returns-in-Columns c =
    let is : c.args.self.now ≡ rows_of c.in-Columns.len c.in-Columns.columns.items = rows_by_columns c.self.inside.form c.in-Columns.len c.in-Columns.columns c.args.self.now c.self.view_is c.in-Columns.is in
    let inside : c.args.column < length c.in-Columns.columns.items = column_below c.in-Columns.len c.in-Columns.columns.items c.args.self.now c.args.row c.args.column is c.requires.row c.requires.column in
    let below : c.args.row < c.in-Columns.len = row_below c.in-Columns.len c.in-Columns.columns.items c.args.self.now c.args.row is c.requires.row in
    value_is c.in-Columns.len c.in-Columns.columns.items c.args.self.now c.args.row c.args.column c.index.result.now c.value.result.now is below inside c.index.ensures c.value.ensures
