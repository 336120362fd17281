-- What the rows of a store are, and one table among them.
use Rattle.std.specs.Prelude.{ℕ, ◌≡◌, List, [], ◌∷◌, Some, get_or, slice_get}
use Rattle.ut_plain.specs.declared.table.Table.{Table}
use Rattle.ut_stamps.specs.declared.fates.Fate.{Fate}
use Rattle.ut_stamps.specs.declared.fates.Fate.TheVariants.{Committed, Aborted}
use Rattle.ut_staged.specs.Staged.{Staged}

-- the rows of all tables
pub record Rows : Type 0 where
  pub tables : List Table
  -- the stages of each
  pub staged : List Staged
  -- what became of each transaction, by its number
  pub fates : List Fate

-- the rows as their own calls see them, with how many more the first stage of each table takes without memory
pub record RowsValue : Type 0 where
  pub rows : Rows
  pub spare : List ℕ

-- the same with other fates
abbrev pub with_fates : RowsValue → List Fate → RowsValue
with_fates r fates = record r { rows = record r.rows { fates = fates } }

-- so many the first stage of the table at a place takes
abbrev pub spare_at : RowsValue → ℕ → ℕ
spare_at r n = get_or r.spare n 0

-- these tables and their rows, of which each was there at the opening or is nobody's
abbrev pub restored : List Table → List Staged → Rows
restored tables staged = record { tables = tables; staged = staged; fates = Committed 0 ∷ Aborted ∷ [] }

-- the stages of the table at a place, if there is one, have this property
abbrev pub AtPlace : Rows → ℕ → (Staged → Type 0) → Type 0
AtPlace r n P = (s : Staged) → slice_get r.staged n ≡ Some s → P s

-- There is a table at a place, and its stages have this property.
pub record HasTable (r : Rows) (n : ℕ) (P : Staged → Type 0) : Type 0 where
  pub table : Staged
  pub at : slice_get r.staged n ≡ Some table
  pub has : P table
