-- Rows that are put column by column.
use Rattle.std.specs.Prelude.{ℕ, ◌≡◌, ◌+◌, ◌<◌, ◌≤◌, ◌∷◌, [], List, Option, length, get_or, map, take, drop, All, IfSome, flat_map, sum_by}
use Rattle.ut_value.specs.declared.value.Value.{Value}
use Rattle.ut_rows.specs.Columns.{value_in}
use Rattle.ut_reply.specs.declared.columns.Texts.{Texts}
use Rattle.ut_reply.specs.Texts.{value_text, tuple_text, value_room, tuple_room}

-- a column: its value in each row, and the byte in front of each
pub record Led : Type 0 where
  pub lead : ℕ
  pub values : List Value

-- a column with this byte in front of each value
abbrev pub led : ℕ → List Value → Led
led lead values = record { lead = lead; values = values }

-- the columns of an answer: a line end in front of the first value of a row, and a space in front of the others
abbrev pub led_columns : List (List Value) → List Led
led_columns [] = []
led_columns (first ∷ more) = led 10 first ∷ map (led 32) more

-- the text of a column in a row
abbrev pub cell_text : ℕ → Led → List ℕ
cell_text row c = c.lead ∷ value_text (value_in c.values row)

-- at most so many bytes has it
abbrev pub cell_room : ℕ → Led → ℕ
cell_room row c = value_room (value_in c.values row) + 1

-- the text of a row
abbrev pub row_text : List Led → ℕ → List ℕ
row_text columns row = flat_map (cell_text row) columns

-- at most so many bytes has it
abbrev pub row_room : List Led → ℕ → ℕ
row_room columns row = sum_by (cell_room row) columns

-- the columns have the rows, and a row's text is its line
pub record Show (columns : List Led) (rows : List (List Value)) : Type 0 where
  pub each : All (λ c. length c.values ≡ length rows) columns
  pub text : (row : ℕ) → row < length rows → row_text columns row ≡ 10 ∷ tuple_text (get_or rows row [])
  pub room : (row : ℕ) → row < length rows → row_room columns row ≡ tuple_room (get_or rows row [])

-- from its bound to the next stands the text of a value, and the byte in front of it
pub record IsText (lead : ℕ) (value : Value) (bytes bounds : List ℕ) (place : ℕ) : Type 0 where
  pub rises : get_or bounds place 0 ≤ get_or bounds (place + 1) 0
  pub within : get_or bounds (place + 1) 0 ≤ length bytes
  pub text : drop (get_or bounds place 0) (take (get_or bounds (place + 1) 0) bytes) ≡ lead ∷ value_text value
  pub fits : get_or bounds (place + 1) 0 ≤ get_or bounds place 0 + (value_room value + 1)

-- a text for each value
pub record AreTexts (lead : ℕ) (values : List Value) (bytes bounds : List ℕ) : Type 0 where
  pub many : length bounds ≡ length values + 1
  pub each : (place : ℕ) → place < length values → IsText lead (value_in values place) bytes bounds place

-- each row has a place among the values, and where there are texts they are those of the values
pub record IsHeld (lead : ℕ) (values : List Value) (places : List ℕ) (texts : Option Texts) : Type 0 where
  pub within : All (λ place. place < length values) places
  pub made : IfSome texts (λ t. AreTexts lead values t.bytes.items t.bounds.items)
