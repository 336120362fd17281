-- What a change makes of the rows: the stages of one table are others, and a transaction has its fate.
use Rattle.std.specs.Prelude.{ℕ, ◌+◌, ◌≤◌, ◌≡◌, ◌⊎◌, All, IsTrue, List, [], ◌∷◌, ◌++◌, length, slice_set}
use Rattle.ut_value.specs.declared.value.Column.{Column}
use Rattle.ut_value.specs.declared.value.Row.{Row}
use Rattle.ut_plain.specs.Tables.{fits_columns}
use Rattle.ut_stamps.specs.declared.fates.Fate.TheVariants as fates
use Rattle.ut_staged.specs.Staged.{Staged, count_of, no_rows}
use Rattle.ut_change.specs.declared.bulk.Bulk.{Bulk}
use Rattle.ut_change.specs.Bulks.{bulk_rows}
use Rattle.ut_tables.specs.Rows.{AtPlace, Rows}

-- the stages of the table at a place became these, and nothing else changed
abbrev pub Changed : Rows → ℕ → (Staged → Staged) → Rows → Type 0
Changed old n after new = AtPlace old n (λ s. new ≡ record old { staged = slice_set old.staged n (after s) })

-- the same by a new transaction, which the entry committed that brought the journal to a length
abbrev pub Committed : Rows → ℕ → (ℕ → Staged → Staged) → ℕ → Rows → Type 0
Committed old n after entries new = AtPlace old n (λ s. new ≡ record old {
  staged = slice_set old.staged n (after (length old.fates) s);
  fates = slice_set (old.fates ++ fates.Running ∷ []) (length old.fates) (fates.Committed entries);
})

-- a transaction more, which was started for nothing
abbrev pub spent : Rows → Rows
spent r = record r { fates = slice_set (r.fates ++ fates.Running ∷ []) (length r.fates) fates.Aborted }

-- nothing changed, but for a transaction that may have been started for nothing
abbrev pub IsSpent : Rows → Rows → Type 0
IsSpent old new = (new ≡ old) ⊎ (new ≡ spent old)

-- the second stage of a table can take these rows: each fits the columns, and there are places for them
pub record CanTake (b : Bulk) (s : Staged) : Type 0 where
  pub wide : b.width ≡ length s.columns
  pub fit : All (λ (r : Row). IsTrue (fits_columns s.columns r.values)) (bulk_rows b)
  pub few : count_of s + length (bulk_rows b) ≤ 2147483648

-- a table more, without rows
abbrev pub with_table : Rows → List ℕ → List Column → Rows
with_table r name columns = record r {
  tables = r.tables ++ record { name = name; columns = columns } ∷ [];
  staged = r.staged ++ no_rows columns ∷ [];
}
