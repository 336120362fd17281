-- What the new part is made of.
use Rattle.std.specs.Prelude.{◌≡◌, ◌≢◌, ℕ, ◌<◌, List, [], length, map, get_or}
use Rattle.std.specs.List.Sorted.{IsPermutation}
use Rattle.ut_value.specs.declared.entry.MergeKind.TheVariants.{Resort}
use Rattle.ut_prefix.specs.Chain.{shared_dicts}
use Rattle.ut_l2.specs.KeyRows.{KeyRow, cells_at}
use Rattle.ut_main.specs.Columns.{ColumnValue, no_column}
use Rattle.ut_main.specs.Parts.{AreWide}
use Rattle.ut_merge.specs.declared.arranging.NewRows.{NewRows}
use Rattle.ut_merge.specs.Jobs.{JobValue, kept_olds, row_of}
use Rattle.ut_merge.specs.Columns.{codes_in, staying_chain, IsColumn}

-- each kept place once, in its old order unless rows are re-sorted, with the ids and columns of its row, where these are the rows
pub record AreNewRows (job : JobValue) (rows : List KeyRow) (new : NewRows) : Type 0 where
  pub places : IsPermutation (kept_olds job) new.olds.items
  pub in_place : job.head.kind ≢ Resort → new.olds.items ≡ kept_olds job
  pub rows_are : map (row_of job) new.olds.items ≡ rows
  pub wide : AreWide job.width rows
  pub ids_are : new.ids.items ≡ map (λ row. row.id) rows
  pub dicts_count : length new.dicts.items ≡ job.width
  pub codes_count : length new.codes.items ≡ job.width
  pub columns : (j : ℕ) → j < job.width → IsColumn job j rows (get_or (shared_dicts new.dicts.items) j []) (get_or (codes_in new.codes.items) j [])

-- the first columns of rows, so many, behind the dictionaries that stay
pub record AreColumns (job : JobValue) (rows : List KeyRow) (n : ℕ) (columns : List ColumnValue) : Type 0 where
  pub count : length columns ≡ n
  pub before : (j : ℕ) → j < n → (get_or columns j no_column).before ≡ staying_chain job j
  pub cells : (j : ℕ) → j < n → (get_or columns j no_column).cells ≡ cells_at j rows
