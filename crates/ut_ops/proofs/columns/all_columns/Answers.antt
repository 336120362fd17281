use Rattle.std.proofs.Common.{◌<◌, List, All, length, sym, ap, ◌∙◌, subst}
use Rattle.std.specs.List.{range_with_len}
use Rattle.ut_value.specs.declared.value.Column.{Column}
use Rattle.ut_ops.proofs.RowLemmas.{places-there, all-rows}
use Rattle.ut_ops.proofs.columns.all_columns.Goals as goal

pub by_columns-requires-clause-places : goal.by_columns-requires-clause-places
by_columns-requires-clause-places c =
    subst (All (λ place. place < length c.args.table.now.stages.columns)) (sym (c.as_slice.ensures.value ∙ c.in_ok-places.ensures ∙ ap (λ (cs : List Column). range_with_len 0 (length cs)) c.columns.ensures)) (places-there (length c.args.table.now.stages.columns))

pub returns-then-hits-gt-FEW : goal.returns-then-hits-gt-FEW
returns-then-hits-gt-FEW c =
    all-rows c.args.table.now.stages c.as_slice.result.now c.args.hits.now c.in_ok-rows.rows c.requires (c.as_slice.ensures.value ∙ c.in_ok-places.ensures ∙ ap (λ (cs : List Column). range_with_len 0 (length cs)) c.columns.ensures) c.in_ok-rows.ensures
