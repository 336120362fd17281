-- Comparisons by places: each names a column that is there.
use Rattle.std.proofs.Common.{◌<◌, List, [], ◌∷◌, length, map, All, IsTrue, sym, subst}
use Rattle.std.proofs.lemmas.List.Elements.{All-nil, All-cons}
use Rattle.ut_value.specs.declared.value.Column.{Column}
use Rattle.ut_value.specs.Spelling.{has_column}
use Rattle.ut_plain.specs.declared.statement.Pred.{Pred}
use Rattle.ut_plain.specs.Names.{preds_known}
use Rattle.ut_plain.proofs.BoolLemmas.{and_left, and_right}
use Rattle.ut_key.specs.declared.comparison.ColumnPred.{ColumnPred}
use Rattle.ut_plain.specs.Compiled.{column_pred, Compiles}
use Rattle.ut_names.proofs.PlaceLemmas.{found_below}

columns_of_preds : (columns : List Column) (preds : List Pred) → IsTrue (preds_known preds columns) → All (λ (p : ColumnPred). p.column < length columns) (map (column_pred columns) preds)
columns_of_preds columns [] known = All-nil (λ (p : ColumnPred). p.column < length columns)
columns_of_preds columns (p ∷ ps) known =
    All-cons (λ (q : ColumnPred). q.column < length columns) (column_pred columns p) (map (column_pred columns) ps)
    (found_below columns p.column (and_left (has_column columns p.column) (preds_known ps columns) known))
    (columns_of_preds columns ps (and_right (has_column columns p.column) (preds_known ps columns) known))

-- each comparison names a column that is there
pub compiled_below : (columns : List Column) (asked : List Pred) (preds : List ColumnPred) → Compiles columns asked preds → All (λ (p : ColumnPred). p.column < length columns) preds
compiled_below columns asked preds is = subst (All (λ (p : ColumnPred). p.column < length columns)) (sym is.are) (columns_of_preds columns asked is.known)
