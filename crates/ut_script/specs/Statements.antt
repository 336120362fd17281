-- The statements of sessions, and those of the store, as the words behind the session number say them.
use Rattle.std.specs.Prelude.{ℕ, Bool, true, false, ◌&&◌, not, nat_le, nat_lt, if◌then◌else◌, List, [], ◌∷◌, length, codes, Option, None, Some, option_and_then, Result, Ok, Err, ◌≡◌, is_some}
use Rattle.std.specs.Option.{option_map}
use Rattle.ut_value.specs.Text.{same_bytes, is_name}
use Rattle.ut_value.specs.declared.value.Value.{Value}
use Rattle.ut_value.specs.declared.value.Column.{Column}
use Rattle.ut_value.specs.declared.entry.MergeKind.{MergeKind}
use Rattle.ut_value.specs.declared.entry.MergeKind.TheVariants as merges
use Rattle.ut_plain.specs.declared.statement.Pred.{Pred}
use Rattle.ut_plain.specs.declared.statement.Query.TheVariants as queries
use Rattle.ut_plain.specs.declared.statement.Statement.{Statement}
use Rattle.ut_plain.specs.declared.statement.Statement.TheVariants as statements
use Rattle.ut_script.specs.declared.rows.Stage.{Stage}
use Rattle.ut_script.specs.declared.rows.Stage.TheVariants.{L1, L2}
use Rattle.ut_script.specs.Words.{all_of}
use Rattle.ut_script.specs.Literals.{number_of, within, value_of, column_of}
use Rattle.ut_script.specs.Conditions.{conditions_of}

-- a name and 1 to 64 columns
abbrev pub create_with : List ℕ → List Column → Option Statement
create_with table columns = if nat_lt 0 (length columns) && nat_le (length columns) 64 then Some (statements.Create table columns) else None

-- a table and its columns
abbrev pub create_of : List (List ℕ) → Option Statement
create_of [] = None
create_of (table ∷ words) = if is_name table then option_and_then (create_with table) (all_of column_of words) else None

-- one or more values
abbrev pub some_values : List Value → Option (List Value)
some_values values = if nat_lt 0 (length values) then Some values else None

-- words as values, one or more
abbrev pub values_of : List (List ℕ) → Option (List Value)
values_of words = option_and_then some_values (all_of value_of words)

-- rows of a table, into L1 or L2
abbrev pub rows_of : (List ℕ → List Value → Statement) → List (List ℕ) → Option Statement
rows_of put [] = None
rows_of put (table ∷ words) = if is_name table then option_map (put table) (values_of words) else None

-- the statement that puts a row into a stage
abbrev pub put_into : Stage → List ℕ → List Value → Statement
put_into L1 = statements.Insert
put_into L2 = statements.Bulk

-- `where` ends the columns of a `select`, as the end of the line does
abbrev pub is_where : List ℕ → Bool
is_where word = same_bytes word (codes "where")

-- the names in front of the conditions
abbrev pub names_before : List (List ℕ) → Option (List (List ℕ))
names_before [] = Some []
names_before (word ∷ words) =
    if is_where word then Some []
    else (if is_name word then option_map (λ names. word ∷ names) (names_before words) else None)

-- the words from the first `where` on
abbrev pub from_where : List (List ℕ) → List (List ℕ)
from_where [] = []
from_where (word ∷ words) = if is_where word then word ∷ words else from_where words

-- the columns by name, at least one
abbrev pub select_with : List ℕ → List (List ℕ) → Option (List Pred) → Option Statement
select_with table columns None = None
select_with table columns (Some preds) =
    if nat_lt 0 (length columns) then Some (statements.Ask (queries.Select table (Some columns) preds)) else None

-- all columns, and conditions
abbrev pub columns_of_all : List ℕ → List (List ℕ) → Option Statement
columns_of_all table words = option_map (λ preds. statements.Ask (queries.Select table None preds)) (conditions_of words)

-- columns by name, up to the conditions
abbrev pub columns_named : List ℕ → List (List ℕ) → Option Statement
columns_named table words = option_and_then (λ columns. select_with table columns (conditions_of (from_where words))) (names_before words)

-- all columns, or those that are named
abbrev pub columns_asked : List ℕ → List (List ℕ) → Option Statement
columns_asked table [] = None
columns_asked table (word ∷ words) = if same_bytes word (codes "*") then columns_of_all table words else columns_named table (word ∷ words)

-- a table, columns and conditions
abbrev pub select_of : List (List ℕ) → Option Statement
select_of [] = None
select_of (table ∷ words) = if is_name table then columns_asked table words else None

-- a table and conditions
abbrev pub chosen_of : (List ℕ → List Pred → Statement) → List (List ℕ) → Option Statement
chosen_of say [] = None
chosen_of say (table ∷ words) = if is_name table then option_map (say table) (conditions_of words) else None

-- whether words are a table and conditions
abbrev pub is_chosen : List (List ℕ) → Bool
is_chosen [] = false
is_chosen (table ∷ words) = is_name table && is_some (conditions_of words)

-- whether words are a table, a column and conditions
abbrev pub is_folded : List (List ℕ) → Bool
is_folded (table ∷ column ∷ words) = is_name table && is_name column && is_some (conditions_of words)
is_folded _ = false

-- a table, a column and conditions
abbrev pub folded_of : (List ℕ → List ℕ → List Pred → Statement) → List (List ℕ) → Option Statement
folded_of say (table ∷ column ∷ words) =
    if is_name table && is_name column then option_map (say table column) (conditions_of words) else None
folded_of say _ = None

-- a table, the column that groups its rows, `sum` with the column that is summed, and conditions
abbrev pub group_of : List (List ℕ) → Option Statement
group_of (table ∷ key ∷ verb ∷ sum ∷ words) =
    if is_name table && is_name key && same_bytes verb (codes "sum") && is_name sum
    then option_map (λ preds. statements.Ask (queries.Group table key sum preds)) (conditions_of words)
    else None
group_of _ = None

-- two tables, each with the column that is compared
abbrev pub join_of : List (List ℕ) → Option Statement
join_of (left ∷ left_column ∷ right ∷ right_column ∷ []) =
    if is_name left && is_name left_column && is_name right && is_name right_column
    then Some (statements.Ask (queries.Join left left_column right right_column))
    else None
join_of _ = None

-- a new value and conditions, where the words are such
abbrev pub update_with : List ℕ → List ℕ → Option Value → Option (List Pred) → Option Statement
update_with table column None preds = None
update_with table column (Some value) preds = option_map (λ ps. statements.Update table column value ps) preds

-- a table, `set` with a column and its new value, and conditions
abbrev pub update_of : List (List ℕ) → Option Statement
update_of (table ∷ verb ∷ column ∷ value ∷ words) =
    if is_name table && same_bytes verb (codes "set") && is_name column then update_with table column (value_of value) (conditions_of words)
    else None
update_of _ = None

-- the statements that ask
abbrev pub query_of : List ℕ → List (List ℕ) → Option Statement
query_of verb words =
    if same_bytes verb (codes "select") then select_of words
    else if same_bytes verb (codes "count") then chosen_of (λ table preds. statements.Ask (queries.Count table preds)) words
    else if same_bytes verb (codes "sum") then folded_of (λ table column preds. statements.Ask (queries.Sum table column preds)) words
    else if same_bytes verb (codes "min") then folded_of (λ table column preds. statements.Ask (queries.Min table column preds)) words
    else if same_bytes verb (codes "max") then folded_of (λ table column preds. statements.Ask (queries.Max table column preds)) words
    else if same_bytes verb (codes "group") then group_of words
    else if same_bytes verb (codes "join") then join_of words
    else None

-- a statement that no word follows
abbrev pub alone : Statement → List (List ℕ) → Option Statement
alone st [] = Some st
alone st (word ∷ words) = None

-- the statements of a transaction stand alone
abbrev pub transaction_verb : List ℕ → Option Statement
transaction_verb verb =
    if same_bytes verb (codes "begin") then Some statements.Begin
    else if same_bytes verb (codes "commit") then Some statements.Commit
    else if same_bytes verb (codes "abort") then Some statements.Abort
    else None

-- the statements that make a table, change its rows or ask
abbrev pub table_statement_of : List ℕ → List (List ℕ) → Option Statement
table_statement_of verb words =
    if same_bytes verb (codes "insert") then rows_of statements.Insert words
    else if same_bytes verb (codes "bulk") then rows_of statements.Bulk words
    else if same_bytes verb (codes "update") then update_of words
    else if same_bytes verb (codes "delete") then chosen_of statements.Delete words
    else if same_bytes verb (codes "create") then create_of words
    else query_of verb words

-- a statement that stands alone, or else another
abbrev pub alone_or : Option Statement → List (List ℕ) → Option Statement → Option Statement
alone_or (Some st) words other = alone st words
alone_or None words other = other

-- the statements of sessions 1 to 16
abbrev pub session_statement_of : List (List ℕ) → Option Statement
session_statement_of [] = None
session_statement_of (verb ∷ words) = alone_or (transaction_verb verb) words (table_statement_of verb words)

-- a number of rows or pages
abbrev pub count_of : List ℕ → Option ℕ
count_of word = within 1 1048576 (number_of word)

-- the four kinds of merge
abbrev pub merge_kind_of : List ℕ → Option MergeKind
merge_kind_of word =
    if same_bytes word (codes "classic") then Some merges.Classic
    else if same_bytes word (codes "resort") then Some merges.Resort
    else if same_bytes word (codes "partial") then Some merges.Partial
    else if same_bytes word (codes "extend") then Some merges.Extend
    else None

-- whether words are a table and one word more
abbrev pub is_named_word : List (List ℕ) → Bool
is_named_word (table ∷ word ∷ []) = is_name table
is_named_word _ = false

-- a table, and how many rows are to move
abbrev pub merge_l1_of : List (List ℕ) → Option Statement
merge_l1_of (table ∷ n ∷ []) = if is_name table then option_map (statements.MergeL1 table) (count_of n) else None
merge_l1_of _ = None

-- a table and a kind of merge
abbrev pub merge_begin_of : List (List ℕ) → Option Statement
merge_begin_of (table ∷ kind ∷ []) = if is_name table then option_map (statements.MergeBegin table) (merge_kind_of kind) else None
merge_begin_of _ = None

-- how many pages are to be written
abbrev pub save_step_of : List (List ℕ) → Option Statement
save_step_of (n ∷ []) = option_map statements.SaveStep (count_of n)
save_step_of _ = None

-- the statements of the savepoint
abbrev pub save_of : List (List ℕ) → Option Statement
save_of [] = None
save_of (verb ∷ words) =
    if same_bytes verb (codes "begin") then alone statements.SaveBegin words
    else if same_bytes verb (codes "step") then save_step_of words
    else if same_bytes verb (codes "seal") then alone statements.SaveSeal words
    else if same_bytes verb (codes "flip") then alone statements.SaveFlip words
    else if same_bytes verb (codes "drop") then alone statements.SaveDrop words
    else None

-- the end of a merge
abbrev pub merge_end_of : List (List ℕ) → Option Statement
merge_end_of [] = None
merge_end_of (verb ∷ words) = if same_bytes verb (codes "end") then alone statements.MergeEnd words else None

-- the other steps of a merge, which name a table
abbrev pub merge_of : List (List ℕ) → Option Statement
merge_of [] = None
merge_of (verb ∷ words) =
    if same_bytes verb (codes "l1") then merge_l1_of words
    else if same_bytes verb (codes "begin") then merge_begin_of words
    else None

-- a table
abbrev pub shape_of : List (List ℕ) → Option Statement
shape_of (table ∷ []) = if is_name table then Some (statements.Shape table) else None
shape_of _ = None

-- one statement or another
abbrev pub said_or : Option Statement → Option Statement → Option Statement
said_or (Some st) other = Some st
said_or None other = other

-- the statements of session 0
abbrev pub store_statement_of : List (List ℕ) → Option Statement
store_statement_of [] = None
store_statement_of (verb ∷ words) =
    if same_bytes verb (codes "save") then save_of words
    else if same_bytes verb (codes "merge") then said_or (merge_end_of words) (merge_of words)
    else if same_bytes verb (codes "shape") then shape_of words
    else None

-- a statement that names nothing and has no value
abbrev pub is_bare : Statement → Bool
is_bare statements.Begin = true
is_bare statements.Commit = true
is_bare statements.Abort = true
is_bare statements.MergeEnd = true
is_bare statements.SaveBegin = true
is_bare (statements.SaveStep n) = true
is_bare statements.SaveSeal = true
is_bare statements.SaveFlip = true
is_bare statements.SaveDrop = true
is_bare _ = false

-- whether the words say a statement with a name or a value
abbrev pub needs_memory : Option Statement → Bool
needs_memory None = false
needs_memory (Some st) = not (is_bare st)

-- A reader answers what the grammar says, and lacks memory only where the grammar says something.
abbrev pub Reads : {E : Type 0} → Result (Option Statement) E → Option Statement → Type 0
Reads (Ok read) said = read ≡ said
Reads (Err e) said = is_some said ≡ true

-- The same of a reader that takes no memory for a statement without a name and a value.
abbrev pub ReadsStatement : {E : Type 0} → Result (Option Statement) E → Option Statement → Type 0
ReadsStatement (Ok read) said = read ≡ said
ReadsStatement (Err e) said = needs_memory said ≡ true
