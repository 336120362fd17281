-- What was worked out of a journal's state.
use Rattle.std.specs.Prelude.{ℕ, ◌≡◌, List}
use Rattle.std.specs.FinMap as finmap
use Rattle.ut_value.specs.declared.entry.Entry.{Entry}
use Rattle.ut_value.specs.declared.entry.Entry.TheVariants as entries
use Rattle.ut_plain.specs.Rows.{next_after}
use Rattle.ut_plain.specs.State.{State}
use Rattle.ut_plain.specs.Journal.{after_all}
use Rattle.check_rows.specs.declared.known.Known.{Known}

-- its tables, its rows by ascending id, and its numbers of commits and of merges
pub record IsKnown (known : Known) (s : State) : Type 0 where
  pub tables : known.tables.items ≡ s.tables
  pub rows : known.rows.items ≡ finmap.entries s.rows
  pub commits : known.commits ≡ s.commits
  pub merges : known.merges ≡ s.merges

-- what is known of a state before these entries, and then of the one behind them
pub record Follows (old : Known) (es : List Entry) (new : Known) : Type 0 where
  pub each : (s : State) → IsKnown old s → IsKnown new (after_all s es)

-- one above the greatest id that was inserted, an entry included
abbrev pub entry_next : ℕ → Entry → ℕ
entry_next next (entries.Create name columns) = next
entry_next next (entries.Txn ops) = next_after next ops
entry_next next (entries.Begun n table kind) = next
entry_next next (entries.Ended n) = next
