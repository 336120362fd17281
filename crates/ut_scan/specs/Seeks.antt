-- The number that a scan of rows seeks: rows with another one in its column are out by that alone.
use Rattle.std.specs.Prelude.{◌≡◌, ℕ, ◌<◌, All, List, false}
use Rattle.ut_key.specs.declared.comparison.Cmp.TheVariants.{Eq}
use Rattle.ut_key.specs.Keys.{meets}
use Rattle.ut_value.specs.KeyBytes.{int_key}
use Rattle.ut_l2.specs.KeyRows.{KeyRow, key_at}
use Rattle.ut_key.specs.declared.comparison.ColumnPred.{ColumnPred}
use Rattle.ut_scan.specs.declared.sought.Sought.{Sought}
use Rattle.ut_scan.specs.Finds.{passes}

-- a comparison asks for equality with a number
pub record Asks (pred : ColumnPred) (sought : Sought) : Type 0 where
  pub op : pred.op ≡ Eq
  pub column : sought.column ≡ pred.column
  pub key : pred.key ≡ int_key sought.number

-- no row with another number meets all the comparisons
pub record IsSought (preds : List ColumnPred) (sought : Sought) : Type 0 where
  pub column : (width : ℕ) → All (λ p. p.column < width) preds → sought.column < width
  pub other : (row : KeyRow) → meets Eq (int_key sought.number) (key_at sought.column row) ≡ false → passes preds row ≡ false
