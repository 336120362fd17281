-- What the store reads for a statement of a session.
use Rattle.std.specs.Prelude.{ℕ, ◌≡◌, Bool, T, Option, is_some}
use Rattle.std.specs.Option.{option_map, unwrap_or}
use Rattle.std.specs.Ordering.{nat_cmp}
use Rattle.std.specs.FinMap.{find, is_sorted}
use Rattle.ut_value.specs.declared.entry.Entry.TheVariants.{Txn}
use Rattle.ut_value.specs.Spelling.{spelling}
use Rattle.ut_plain.specs.View.{View, own_ops}
use Rattle.ut_stamps.specs.Stamps.{counts}
use Rattle.ut_exact.specs.Stamped.{Stamped}
use Rattle.ut_exact.specs.Exact.{shown_by, ended_by, may_take}
use Rattle.ut_txn.specs.declared.opened.Opened.{Opened}
use Rattle.ut_txn.specs.Seats.{opened_at, payload_at}
use Rattle.ut_look.specs.Look.{Sight}
use Rattle.ut_tables.specs.Finds as seen
use Rattle.ut_store.specs.Held.{Held}
use Rattle.ut_store.specs.Stands.{opened_snapshot}

-- the length of the journal at which a session looks
abbrev pub looks_at : Held → ℕ → ℕ
looks_at e session = unwrap_or (opened_snapshot (opened_at e.seats session)) e.counts.entries

-- the number of a session's own transaction
abbrev pub own_at : Held → ℕ → Option ℕ
own_at e session = option_map (λ (o : Opened). o.number) (opened_at e.seats session)

-- what a session looks at
abbrev pub sight_of : Held → ℕ → Sight
sight_of e session = seen.sight_of e.rows (looks_at e session) (own_at e session)

-- whether a transaction's work is there for a session
abbrev pub counts_for : Held → ℕ → ℕ → Bool
counts_for e session = counts e.rows.fates (looks_at e session) (own_at e session)

-- The store reads what a view says, where these are the rows of each id.
pub record Reads (e : Held) (session : ℕ) (v : View) (held : ℕ → Option Stamped) : Type 0 where
  pub tables : v.tables ≡ e.rows.tables
  pub is_open : is_some v.own ≡ is_some (opened_at e.seats session)
  pub bytes : payload_at e.seats session ≡ spelling (Txn (own_ops v.own))
  pub sorted : T (is_sorted nat_cmp v.rows)
  pub shown : (id : ℕ) → find nat_cmp id v.rows ≡ shown_by (counts_for e session) (held id)
  pub taken : (id : ℕ) → v.taken id ≡ ended_by (may_take e.rows.fates (looks_at e session) (own_at e session)) (held id)
  pub entries : v.entries ≡ e.counts.entries
  pub commits : v.commits ≡ e.counts.commits
  pub next_id : v.next_id ≡ e.counts.next_id
  pub rows_limit : v.rows_limit ≡ e.counts.rows_limit
  pub pending : v.pending ≡ e.counts.pending
