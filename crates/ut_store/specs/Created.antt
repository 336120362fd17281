-- What a new table makes of the store.
use Rattle.std.specs.Prelude.{ℕ, ◌+◌, ◌≡◌, List}
use Rattle.ut_value.specs.declared.value.Column.{Column}
use Rattle.ut_value.specs.declared.entry.Entry.TheVariants as made
use Rattle.ut_value.specs.Spelling.{spelling}
use Rattle.ut_tables.specs.Changed.{with_table}
use Rattle.ut_store.specs.Held.{Held}

-- The store has one table more, without rows, and the frame spells the entry that says so.
pub record Created (old : Held) (name : List ℕ) (columns : List Column) (new : Held) : Type 0 where
  pub rows : new.rows ≡ with_table old.rows name columns
  pub seats : new.seats ≡ old.seats
  pub counts : new.counts ≡ record old.counts { commits = old.counts.commits + 1; entries = old.counts.entries + 1 }
  pub frame : new.frame ≡ spelling (made.Create name columns)
