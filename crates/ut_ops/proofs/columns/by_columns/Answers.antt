use Rattle.std.proofs.Common.{◌≡◌, ◌++◌, length, All, sym, ap, ◌∙◌, subst, refl}
use Rattle.ut_rows.specs.Columns.{rows_of}
use Rattle.ut_ops.proofs.RowLemmas.{columns_at, columns-long, rows-by_columns}
use Rattle.ut_ops.proofs.columns.by_columns.Goals as goal

pub of_columns-requires : goal.of_columns-requires
of_columns-requires c =
    let columns = c.in_ok-add_columns.ensures ∙ ap (λ cs. cs ++ columns_at c.args.table.now.stages c.args.places.now c.args.hits.now) c.in_ok-columns.ensures.items in
    subst (All (λ column. length column ≡ length c.args.hits.now)) (sym columns) (columns-long c.args.table.now.stages c.args.places.now c.args.hits.now (length c.args.hits.now) refl)

pub returns : goal.returns
returns c =
    let columns = c.in_ok-add_columns.ensures ∙ ap (λ cs. cs ++ columns_at c.args.table.now.stages c.args.places.now c.args.hits.now) c.in_ok-columns.ensures.items in
    c.of_columns.ensures ∙ ap (rows_of (length c.args.hits.now)) columns ∙ rows-by_columns c.args.table.now.stages c.args.places.now c.args.hits.now
