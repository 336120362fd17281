-- Seats that change, and a store that is the same.
use Rattle.std.proofs.Common.{ℕ, ◌<◌, ◌≡◌, ◌≢◌, inl, inr, List, length, Option, None, sym, ap, ◌∙◌, subst, arith, slice_set, unwrap_or}
use Rattle.std.proofs.lemmas.Bool.{cases_eq}
use Rattle.std.specs.Option.{option_map}
use Rattle.ut_value.specs.declared.entry.Entry.TheVariants.{Txn}
use Rattle.ut_value.specs.Spelling.{spelling}
use Rattle.ut_plain.specs.declared.transaction.OpenTransaction.{OpenTransaction}
use Rattle.ut_plain.specs.Plain.{Plain, Sessions, open_at}
use Rattle.ut_plain.specs.View.{own_ops}
use Rattle.ut_exact.proofs.SessionLemmas.{at-set_same, at-set_other, AreOpen-renumbered}
use Rattle.ut_txn.specs.declared.opened.Opened.{Opened}
use Rattle.ut_txn.specs.Seats.{Seat, opened_at, payload_at, number_at, SeatSet, SeatsStay}
use Rattle.ut_store.specs.Held.{Held}
use Rattle.ut_store.specs.Stands.{StandsFor, AreSeats, snapshot_of, opened_snapshot}
use Rattle.ut_store.specs.Answers.{Same}

-- the sessions with the transaction of one another
pub AreSeats-set : (old new : List Seat) (sessions : Sessions) (session : ℕ) (opened : Option Opened) (payload : List ℕ) (t : Option OpenTransaction) → 0 < session → session < 17 → length sessions ≡ 17
    → opened_snapshot opened ≡ snapshot_of t → payload ≡ spelling (Txn (own_ops t)) → SeatSet old new session opened payload → AreSeats old sessions → AreSeats new (slice_set sessions session t)
AreSeats-set old new sessions session opened payload t some small seventeen look bytes c s =
    let inside : session < length sessions = omega (arith, small, seventeen) in
    record {
      count = c.count ∙ s.count;
      snapshots = λ r. elim (cases_eq r session) [
        | inl same ↦ ap (λ k. opened_snapshot (opened_at new k)) same ∙ ap opened_snapshot c.opened ∙ look ∙ ap snapshot_of (sym (at-set_same None sessions session t inside)) ∙ ap (λ k. snapshot_of (open_at (slice_set sessions session t) k)) (sym same)
        | inr other ↦ ap opened_snapshot (c.others r other) ∙ s.snapshots r ∙ ap snapshot_of (sym (at-set_other None sessions session r t other))
      ];
      payloads = λ r lt. elim (cases_eq r session) [
        | inl same ↦ ap (payload_at new) same ∙ c.payload ∙ bytes ∙ ap (λ o. spelling (Txn (own_ops o))) (sym (at-set_same None sessions session t inside)) ∙ ap (λ k. spelling (Txn (own_ops (open_at (slice_set sessions session t) k)))) (sym same)
        | inr other ↦ c.payloads r other ∙ s.payloads r lt ∙ ap (λ o. spelling (Txn (own_ops o))) (sym (at-set_other None sessions session r t other))
      ];
      nobody = at-set_other None sessions session 0 t (λ same. absurd (omega (arith, some, same))) ∙ s.nobody;
    }

-- the numbers of the others stay
pub numbers-set : (old new : List Seat) (session : ℕ) (opened : Option Opened) (payload : List ℕ) (r : ℕ) → SeatSet old new session opened payload → r ≢ session → number_at new r ≡ number_at old r
numbers-set old new session opened payload r c other = ap (λ o. unwrap_or (option_map (λ (x : Opened). x.number) o) 0) (c.others r other)

-- seats that stay
pub seats-stay : (old new : List Seat) (sessions : Sessions) → SeatsStay old new → AreSeats old sessions → AreSeats new sessions
seats-stay old new sessions c s = record { count = c.count ∙ s.count; snapshots = λ r. ap opened_snapshot (c.opened r) ∙ s.snapshots r; payloads = λ r lt. c.payloads r ∙ s.payloads r lt; nobody = s.nobody }

pub numbers-stay : (old new : List Seat) (r : ℕ) → SeatsStay old new → number_at new r ≡ number_at old r
numbers-stay old new r c = ap (λ o. unwrap_or (option_map (λ (x : Opened). x.number) o) 0) (c.opened r)

-- a store that is the same stands for the same
pub stands-same : (old new : Held) (p : Plain) → Same old new → StandsFor old p → StandsFor new p
stands-same old new p c s = subst (λ (x : Held). StandsFor x p) (λ i. record { rows = sym c.rows i; seats = new.seats; counts = sym c.counts i; frame = new.frame }) (record {
  plain = s.plain;
  counts = record { tables = s.counts.tables; commits = s.counts.commits; merges = s.counts.merges; entries = s.counts.entries; next_id = s.counts.next_id; rows_limit = s.counts.rows_limit; pending = s.counts.pending };
  seats = seats-stay old.seats new.seats p.sessions c.seats s.seats;
  rows = record {
    held = s.rows.held;
    places = s.rows.places;
    dropped = s.rows.dropped;
    free = s.rows.free;
    exact = s.rows.exact;
    transactions = AreOpen-renumbered old.rows.fates s.rows.held p.sessions (number_at old.seats) (number_at new.seats) p.journal p.opening (λ r t h. numbers-stay old.seats new.seats r c.seats) s.rows.transactions;
    dead = s.rows.dead;
    started = s.rows.started;
    stages = s.rows.stages;
    columns = s.rows.columns;
    merging = s.rows.merging;
  };
})
