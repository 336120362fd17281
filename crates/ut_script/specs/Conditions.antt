-- Conditions on rows: nothing, or `where` and comparisons that are joined by `and`.
use Rattle.std.specs.Prelude.{ℕ, if◌then◌else◌, List, [], ◌∷◌, codes, Option, None, Some, option_and_then}
use Rattle.std.specs.Option.{option_map}
use Rattle.ut_key.specs.declared.comparison.Cmp.{Cmp}
use Rattle.ut_key.specs.declared.comparison.Cmp.TheVariants.{Eq, Ne, Lt, Le, Gt, Ge}
use Rattle.ut_value.specs.Text.{same_bytes, is_name}
use Rattle.ut_value.specs.declared.value.Value.{Value}
use Rattle.ut_plain.specs.declared.statement.Pred.{Pred}
use Rattle.ut_script.specs.Literals.{value_of}

-- an operator
unfoldable pub operator_of : List ℕ → Option Cmp
operator_of word =
    if same_bytes word (codes "=") then Some Eq
    else if same_bytes word (codes "<>") then Some Ne
    else if same_bytes word (codes "<") then Some Lt
    else if same_bytes word (codes "<=") then Some Le
    else if same_bytes word (codes ">") then Some Gt
    else if same_bytes word (codes ">=") then Some Ge
    else None

-- a column, an operator and a value
abbrev pub comparison_with : List ℕ → Option Cmp → Option Value → Option Pred
comparison_with column (Some op) (Some value) = if is_name column then Some (record { column = column; op = op; value = value }) else None
comparison_with column (Some op) None = None
comparison_with column None value = None

unfoldable pub comparison_of : List ℕ → List ℕ → List ℕ → Option Pred
comparison_of column op value = comparison_with column (operator_of op) (value_of value)

-- a comparison in front of others
abbrev pub onto_comparisons : Option Pred → Option (List Pred) → Option (List Pred)
onto_comparisons pred preds = option_and_then (λ p. option_map (λ ps. p ∷ ps) preds) pred

-- one or more comparisons, joined by `and`
abbrev pub comparisons_of : List (List ℕ) → Option (List Pred)
comparisons_of (column ∷ op ∷ value ∷ []) = onto_comparisons (comparison_of column op value) (Some [])
comparisons_of (column ∷ op ∷ value ∷ joint ∷ words) =
    if same_bytes joint (codes "and") then onto_comparisons (comparison_of column op value) (comparisons_of words) else None
comparisons_of _ = None

-- the conditions that end a statement
unfoldable pub conditions_of : List (List ℕ) → Option (List Pred)
conditions_of [] = Some []
conditions_of (word ∷ words) = if same_bytes word (codes "where") then comparisons_of words else None
