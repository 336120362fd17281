-- The end of a transaction of which nothing is kept.
use Rattle.std.specs.Prelude.{ℕ, ◌≡◌, [], IsTrue, None, slice_set}
use Rattle.ut_value.specs.declared.entry.Entry.TheVariants.{Txn}
use Rattle.ut_value.specs.Spelling.{spelling}
use Rattle.ut_stamps.specs.declared.fates.Fate.TheVariants.{Aborted}
use Rattle.ut_stamps.specs.Stamps.{fate_at, is_running}
use Rattle.ut_txn.specs.declared.opened.Opened.{Opened}
use Rattle.ut_txn.specs.Seats.{SeatSet}
use Rattle.ut_store.specs.Held.{Held}

-- the transaction runs
abbrev pub MayEnd : Held → Opened → Type 0
MayEnd e opened = IsTrue (is_running (fate_at e.rows.fates opened.number))

-- The session's transaction is over, and its rows are nobody's.
pub record Forgotten (old : Held) (session : ℕ) (opened : Opened) (new : Held) : Type 0 where
  pub rows : new.rows ≡ record old.rows { fates = slice_set old.rows.fates opened.number Aborted }
  pub seats : SeatSet old.seats new.seats session None (spelling (Txn []))
  pub counts : new.counts ≡ old.counts
