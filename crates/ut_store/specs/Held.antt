-- What the store in memory holds.
use Rattle.std.specs.Prelude.{ℕ, List}
use Rattle.ut_txn.specs.Seats.{Seat}
use Rattle.ut_tables.specs.Rows.{Rows}
use Rattle.ut_store.specs.declared.counts.Counts.{Counts}

-- the rows of all tables, the sessions, and what is counted
pub record Held : Type 0 where
  pub rows : Rows
  -- by the number of the session
  pub seats : List Seat
  -- the ids, the lengths of the journal, and the merge that is pending
  pub counts : Counts
  -- the payload of the frame that the log is to append
  pub frame : List ℕ
