-- A statement's names resolved: the places of its tables and columns, and its comparisons by them.
use Rattle.std.specs.Prelude.{ℕ, ◌≡◌, ◌≤◌, Bool, true, false, ◌&&◌, List, [], length, Option, None, Some, All}
use Rattle.std.specs.List.{filter_map}
use Rattle.std.specs.declared.cmp.Ordering.{Ordering}
use Rattle.std.specs.Ordering.{is_lt, is_gt}
use Rattle.ut_value.specs.declared.value.Value.{Value}
use Rattle.ut_value.specs.declared.value.Column.{Column}
use Rattle.ut_value.specs.Spelling.{has_column}
use Rattle.ut_plain.specs.declared.table.Table.{Table}
use Rattle.ut_plain.specs.declared.statement.Pred.{Pred}
use Rattle.ut_plain.specs.declared.statement.Query.{Query}
use Rattle.ut_plain.specs.declared.statement.Query.TheVariants as queries
use Rattle.ut_plain.specs.declared.reply.Refusal.{Refusal}
use Rattle.ut_plain.specs.declared.reply.Refusal.TheVariants as refusals
use Rattle.ut_plain.specs.Tables.{place_of, column_of, columns_of, columns_in}
use Rattle.ut_plain.specs.Names.{known, preds_known, query_known}
use Rattle.ut_plain.specs.Kinds.{kind_in, has_kind, preds_fit, query_fits}
use Rattle.ut_names.specs.declared.resolved.End.{End}
use Rattle.ut_names.specs.declared.resolved.End.TheVariants.{Least, Greatest}
use Rattle.ut_names.specs.declared.resolved.Selection.{Selection}
use Rattle.ut_names.specs.declared.resolved.Target.{Target}
use Rattle.ut_names.specs.declared.resolved.Columns.{Columns}
use Rattle.ut_names.specs.declared.resolved.Columns.TheVariants as which
use Rattle.ut_names.specs.declared.resolved.Question.{Question}
use Rattle.ut_names.specs.declared.resolved.Question.TheVariants as questions
use Rattle.ut_plain.specs.Compiled.{Compiles}

-- no table has more than 64 columns
abbrev pub AreNarrow : List Table → Type 0
AreNarrow tables = All (λ (t : Table). length t.columns ≤ 64) tables

-- The rows of a table that meet the comparisons that were asked for.
pub record IsSelection (tables : List Table) (name : List ℕ) (asked : List Pred) (s : Selection) : Type 0 where
  pub table : place_of tables name ≡ Some s.table
  pub preds : Compiles (columns_in tables name) asked s.preds.items

-- the place of a column
abbrev pub IsColumn : List Table → List ℕ → List ℕ → ℕ → Type 0
IsColumn tables name column place = column_of (columns_in tables name) column ≡ Some place

-- whether a table is there, and has the columns of comparisons
abbrev pub rows_known : List Table → List ℕ → List Pred → Bool
rows_known tables name preds = known (preds_known preds) (columns_of tables name)

-- whether the values of comparisons are of their columns' kinds
abbrev pub rows_fit : List Table → List ℕ → List Pred → Bool
rows_fit tables name preds = preds_fit (columns_in tables name) preds

-- whether an update names a table that is there, and columns of it
abbrev pub target_known : List Table → List ℕ → List ℕ → List Pred → Bool
target_known tables name column preds = known (λ cs. has_column cs column && preds_known preds cs) (columns_of tables name)

-- whether the new value of an update, and those that it compares with, are of their columns' kinds
abbrev pub target_fits : List Table → List ℕ → List ℕ → Value → List Pred → Bool
target_fits tables name column value preds =
    has_kind value (kind_in (columns_in tables name) column) && preds_fit (columns_in tables name) preds

-- The rows that an update changes, and the column that gets its value.
pub record IsTarget (tables : List Table) (name : List ℕ) (column : List ℕ) (value : Value) (asked : List Pred) (t : Target) : Type 0 where
  pub known : target_known tables name column asked ≡ true
  pub fits : target_fits tables name column value asked ≡ true
  pub rows : IsSelection tables name asked t.rows
  pub place : IsColumn tables name column t.column

-- the places of the columns that are named, or all columns
abbrev pub AreColumns : List Column → Option (List (List ℕ)) → Columns → Type 0
AreColumns columns None which.All = Unit {0}
AreColumns columns (Some names) (which.Named places) = places.items ≡ filter_map (column_of columns) names
AreColumns columns None (which.Named places) = ⊥
AreColumns columns (Some names) which.All = ⊥

-- a question for the least or the greatest value of a column
abbrev pub best_of : End → List ℕ → List ℕ → List Pred → Query
best_of Least name column preds = queries.Min name column preds
best_of Greatest name column preds = queries.Max name column preds

-- what beats the best so far, for an end of the order
abbrev pub beats : End → Ordering → Bool
beats Least = is_lt
beats Greatest = is_gt

-- the question by the places of what it names
abbrev pub IsQuestion : List Table → Query → Question → Type 0
IsQuestion tables (queries.Select name names preds) (questions.Select rows columns) =
    IsSelection tables name preds rows × AreColumns (columns_in tables name) names columns
IsQuestion tables (queries.Count name preds) (questions.Count rows) = IsSelection tables name preds rows
IsQuestion tables (queries.Sum name column preds) (questions.Sum rows place) =
    IsSelection tables name preds rows × IsColumn tables name column place
IsQuestion tables (queries.Min name column preds) (questions.Extreme rows place end) =
    (end ≡ Least) × IsSelection tables name preds rows × IsColumn tables name column place
IsQuestion tables (queries.Max name column preds) (questions.Extreme rows place end) =
    (end ≡ Greatest) × IsSelection tables name preds rows × IsColumn tables name column place
IsQuestion tables (queries.Group name key sum preds) (questions.Group rows k s) =
    IsSelection tables name preds rows × IsColumn tables name key k × IsColumn tables name sum s
IsQuestion tables (queries.Join left c right d) (questions.Join l i r j) =
    (place_of tables left ≡ Some l) × IsColumn tables left c i × (place_of tables right ≡ Some r)
    × IsColumn tables right d j
IsQuestion tables _ _ = ⊥

-- The question names what is there, and its values and columns are of the kinds that they have to be.
pub record Resolves (tables : List Table) (query : Query) (question : Question) : Type 0 where
  pub known : query_known tables query ≡ true
  pub fits : query_fits tables query ≡ true
  pub is : IsQuestion tables query question

-- a name isn't there, or a value or a column isn't of its kind
abbrev pub IsWrong : (names kinds : Bool) → Type 0
IsWrong names kinds = (names && kinds) ≡ false

-- so it is of a question
abbrev pub IsUnfit : List Table → Query → Type 0
IsUnfit tables query = IsWrong (query_known tables query) (query_fits tables query)

-- A question that compares nothing and shows no named columns. It is resolved without memory.
abbrev pub IsBare : Query → Type 0
IsBare (queries.Select name None preds) = preds ≡ []
IsBare (queries.Select name (Some names) preds) = ⊥
IsBare (queries.Count name preds) = preds ≡ []
IsBare (queries.Sum name column preds) = preds ≡ []
IsBare (queries.Min name column preds) = preds ≡ []
IsBare (queries.Max name column preds) = preds ≡ []
IsBare (queries.Group name key sum preds) = preds ≡ []
IsBare (queries.Join left c right d) = Unit {0}

-- why a statement is kept back: a name isn't there, else a value or a column isn't of its kind, else memory ran out
abbrev pub Hinders : Bool → Bool → Refusal → Type 0
Hinders names kinds refusals.Name = names ≡ false
Hinders names kinds refusals.Kind = (names ≡ true) × (kinds ≡ false)
Hinders names kinds refusals.Memory = (names ≡ true) × (kinds ≡ true)
Hinders names kinds _ = ⊥
