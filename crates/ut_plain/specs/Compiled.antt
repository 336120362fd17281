-- Comparisons of named columns as comparisons of keys at places.
use Rattle.std.specs.Prelude.{◌≡◌, List, map, IsTrue}
use Rattle.std.specs.Option.{unwrap_or}
use Rattle.std.specs.List.{list_all}
use Rattle.ut_value.specs.declared.value.Column.{Column}
use Rattle.ut_value.specs.KeyBytes.{key_of, is_value}
use Rattle.ut_plain.specs.declared.statement.Pred.{Pred}
use Rattle.ut_plain.specs.Tables.{column_of}
use Rattle.ut_plain.specs.Names.{preds_known}
use Rattle.ut_plain.specs.Kinds.{preds_fit}
use Rattle.ut_key.specs.declared.comparison.ColumnPred.{ColumnPred}

-- a comparison by the place of its column and the key of its value
abbrev pub column_pred : List Column → Pred → ColumnPred
column_pred columns pred = record { column = unwrap_or (column_of columns pred.column) 0; op = pred.op; key = key_of pred.value }

-- each value that is compared with keeps its rule
pub record KeepRules (preds : List Pred) : Type 0 where
  pub each : IsTrue (list_all (λ (p : Pred). is_value p.value) preds)

-- These are the comparisons that were asked for: each names a column of its value's kind.
pub record Compiles (columns : List Column) (asked : List Pred) (preds : List ColumnPred) : Type 0 where
  pub known : IsTrue (preds_known asked columns)
  pub fit : IsTrue (preds_fit columns asked)
  pub rules : KeepRules asked
  pub are : preds ≡ map (column_pred columns) asked
