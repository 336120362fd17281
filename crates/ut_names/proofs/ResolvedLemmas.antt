-- What is known of selections and of questions that are resolved.
use Rattle.std.proofs.Common.{◌≡◌, ℕ, true, List, ap, ◌∙◌}
use Rattle.ut_plain.specs.declared.table.Table.{Table}
use Rattle.ut_plain.specs.declared.statement.Pred.{Pred}
use Rattle.ut_plain.specs.Names.{known, preds_known}
use Rattle.ut_names.specs.declared.resolved.Selection.{Selection}
use Rattle.ut_names.specs.Resolved.{IsSelection, rows_known}
use Rattle.ut_names.proofs.PlaceLemmas.{table_there}

-- the table of a selection is there, and has the columns that are compared
pub selection_known : (tables : List Table) (name : List ℕ) (asked : List Pred) (s : Selection) → IsSelection tables name asked s → rows_known tables name asked ≡ true
selection_known tables name asked s is = ap (known (preds_known asked)) (table_there tables name s.table is.table) ∙ is.preds.known
