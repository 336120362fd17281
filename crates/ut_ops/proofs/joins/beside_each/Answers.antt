use Rattle.std.proofs.Common.{◌≡◌, ◌<◌, List, ◌++◌, All, length, sym, ap, ◌∙◌, subst}
use Rattle.std.specs.List.{range_with_len}
use Rattle.ut_value.specs.declared.value.Column.{Column}
use Rattle.ut_rows.specs.Columns.{rows_of}
use Rattle.ut_ops.proofs.RowLemmas.{columns_at, both_columns, both-long, pairs-by_columns, places-there}
use Rattle.ut_ops.proofs.joins.beside_each.Goals as goal

pub add_columns-requires-clause-places : goal.add_columns-requires-clause-places
add_columns-requires-clause-places c =
    subst (All (λ place. place < length c.args.left.now.stages.columns)) (sym (c.as_slice.ensures.value ∙ c.in_ok-left_places.ensures ∙ ap (λ (cs : List Column). range_with_len 0 (length cs)) c.columns.ensures)) (places-there (length c.args.left.now.stages.columns))

pub add_columns-requires-2-clause-places : goal.add_columns-requires-2-clause-places
add_columns-requires-2-clause-places c =
    subst (All (λ place. place < length c.args.right.now.stages.columns)) (sym (c.as_slice-2.ensures.value ∙ c.in_ok-right_places.ensures ∙ ap (λ (cs : List Column). range_with_len 0 (length cs)) c.columns-2.ensures)) (places-there (length c.args.right.now.stages.columns))

columns_are : (c : goal.In_ok-add_columns-2) → c.add_columns-2.new.columns.items ≡ both_columns c.args.left.now.stages c.args.lefts.now c.args.right.now.stages c.args.rights.now
columns_are c =
    c.in_ok-add_columns-2.ensures
    ∙ ap (λ cs. cs ++ columns_at c.args.right.now.stages c.as_slice-2.result.now c.args.rights.now) (c.in_ok-add_columns.ensures ∙ ap (λ cs. cs ++ columns_at c.args.left.now.stages c.as_slice.result.now c.args.lefts.now) c.in_ok-columns.ensures.items)
    ∙ (λ i. columns_at c.args.left.now.stages ((c.as_slice.ensures.value ∙ c.in_ok-left_places.ensures ∙ ap (λ (cs : List Column). range_with_len 0 (length cs)) c.columns.ensures) i) c.args.lefts.now
    ++ columns_at c.args.right.now.stages ((c.as_slice-2.ensures.value ∙ c.in_ok-right_places.ensures ∙ ap (λ (cs : List Column). range_with_len 0 (length cs)) c.columns-2.ensures) i) c.args.rights.now)

pub of_columns-requires : goal.of_columns-requires
of_columns-requires c =
    subst (All (λ column. length column ≡ length c.args.lefts.now)) (sym (columns_are c)) (both-long c.args.left.now.stages c.args.right.now.stages c.args.lefts.now c.args.rights.now c.requires.pairs)

pub returns : goal.returns
returns c =
    let columns =
    c.in_ok-add_columns-2.ensures
    ∙ ap (λ cs. cs ++ columns_at c.args.right.now.stages c.as_slice-2.result.now c.args.rights.now) (c.in_ok-add_columns.ensures ∙ ap (λ cs. cs ++ columns_at c.args.left.now.stages c.as_slice.result.now c.args.lefts.now) c.in_ok-columns.ensures.items)
    ∙ (λ i. columns_at c.args.left.now.stages ((c.as_slice.ensures.value ∙ c.in_ok-left_places.ensures ∙ ap (λ (cs : List Column). range_with_len 0 (length cs)) c.columns.ensures) i) c.args.lefts.now
    ++ columns_at c.args.right.now.stages ((c.as_slice-2.ensures.value ∙ c.in_ok-right_places.ensures ∙ ap (λ (cs : List Column). range_with_len 0 (length cs)) c.columns-2.ensures) i) c.args.rights.now) in
    c.of_columns.ensures ∙ ap (rows_of (length c.args.lefts.now)) columns
    ∙ pairs-by_columns c.args.left.now.stages c.args.right.now.stages c.args.lefts.now c.args.rights.now c.requires.left_fit c.requires.right_fit c.requires.pairs
