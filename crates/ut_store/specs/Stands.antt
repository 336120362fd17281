-- When the store in memory agrees with a plain state.
use Rattle.std.specs.Prelude.{ℕ, ◌<◌, ◌≡◌, List, length, Option, None}
use Rattle.std.specs.Option.{option_map}
use Rattle.ut_value.specs.declared.entry.Entry.TheVariants.{Txn}
use Rattle.ut_value.specs.Spelling.{spelling}
use Rattle.ut_plain.specs.declared.transaction.OpenTransaction.{OpenTransaction}
use Rattle.ut_plain.specs.Journal.{journal_len, current}
use Rattle.ut_plain.specs.Plain.{Plain, Sessions, open_at}
use Rattle.ut_plain.specs.Reached.{IsPlain}
use Rattle.ut_plain.specs.View.{own_ops}
use Rattle.ut_txn.specs.declared.opened.Opened.{Opened}
use Rattle.ut_txn.specs.Seats.{Seat, opened_at, payload_at, number_at}
use Rattle.ut_tables.specs.Standing as rows
use Rattle.ut_store.specs.Held.{Held}

-- ---- counts

pub record AreCounts (e : Held) (p : Plain) : Type 0 where
  pub tables : e.rows.tables ≡ (current p.journal).tables
  pub commits : e.counts.commits ≡ (current p.journal).commits
  pub merges : e.counts.merges ≡ (current p.journal).merges
  pub entries : e.counts.entries ≡ journal_len p.journal
  pub next_id : e.counts.next_id ≡ p.next_id
  pub rows_limit : e.counts.rows_limit ≡ p.rows_limit
  pub pending : e.counts.pending ≡ p.pending

-- ---- sessions

-- where a transaction looks
abbrev pub snapshot_of : Option OpenTransaction → Option ℕ
snapshot_of t = option_map (λ (o : OpenTransaction). o.snapshot) t

abbrev pub opened_snapshot : Option Opened → Option ℕ
opened_snapshot o = option_map (λ (x : Opened). x.snapshot) o

-- The seats hold the transactions of these sessions: each looks where the transaction looks, and has the bytes of its own operations.
pub record AreSeats (seats : List Seat) (sessions : Sessions) : Type 0 where
  pub count : length seats ≡ 17
  pub snapshots : (s : ℕ) → opened_snapshot (opened_at seats s) ≡ snapshot_of (open_at sessions s)
  pub payloads : (s : ℕ) → s < 17 → payload_at seats s ≡ spelling (Txn (own_ops (open_at sessions s)))
  -- the first seat is nobody's
  pub nobody : open_at sessions 0 ≡ None

-- ---- rows

-- the rows of all tables are those of the plain state
abbrev pub AreRows : Held → Plain → Type 0
AreRows e p = rows.AreRows e.rows e.counts.next_id e.counts.pending (number_at e.seats) p

-- ---- all of it

pub record StandsFor (e : Held) (p : Plain) : Type 0 where
  pub plain : IsPlain p
  pub counts : AreCounts e p
  pub seats : AreSeats e.seats p.sessions
  pub rows : AreRows e p
