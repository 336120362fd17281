-- What the store reads is the view of the plain state.
use Rattle.std.proofs.Common.{ℕ, ◌<◌, ◌≡◌, length, Option, None, Some, refl, sym, ap, ◌∙◌, arith, is_some, unwrap_or}
use Rattle.std.specs.Option.{option_map}
use Rattle.std.specs.FinMap as finmap
use Rattle.ut_plain.specs.declared.transaction.OpenTransaction.{OpenTransaction}
use Rattle.ut_plain.specs.Plain.{Plain, open_at, seen_by}
use Rattle.ut_plain.specs.Plain as plain
use Rattle.ut_plain.specs.View.{view}
use Rattle.ut_stamps.specs.Stamps.{counts}
use Rattle.ut_exact.specs.Exact.{shown_by, ended_by, may_take, own_number}
use Rattle.ut_exact.proofs.SeenLemmas.{get-seen, taken-is}
use Rattle.ut_txn.specs.declared.opened.Opened.{Opened}
use Rattle.ut_txn.specs.Seats.{opened_at, number_at}
use Rattle.ut_store.specs.Held.{Held}
use Rattle.ut_store.specs.Stands.{StandsFor, AreSeats, snapshot_of, opened_snapshot}
use Rattle.ut_store.specs.Reads.{Reads, looks_at, own_at}
use Rattle.ut_store.proofs.IndexLemmas.{some_inside}

-- a session's transaction on both sides
pub data SameSession (e : Held) (p : Plain) (session : ℕ) (own : Option OpenTransaction) : Type 0 where
  Closed : own ≡ None → opened_at e.seats session ≡ None → SameSession e p session own
  Open : (t : OpenTransaction) (o : Opened) → own ≡ Some t → opened_at e.seats session ≡ Some o → o.snapshot ≡ t.snapshot → SameSession e p session own

pub same_session : (e : Held) (p : Plain) (session : ℕ) → AreSeats e.seats p.sessions → SameSession e p session (open_at p.sessions session)
same_session e p session seats = by (open_at p.sessions session) (opened_at e.seats session) refl (seats.snapshots session)
  where
    nothing : {X : Type 0} (x : X) → None ≡ Some x → ⊥
    nothing x h = cc

    by : (own : Option OpenTransaction) (o : Option Opened) → opened_at e.seats session ≡ o → opened_snapshot o ≡ snapshot_of own → SameSession e p session own
    by None None is h = Closed refl is
    by None (Some o) is h = absurd (nothing o.snapshot (sym h))
    by (Some t) None is h = absurd (nothing t.snapshot h)
    by (Some t) (Some o) is h = Open t o refl is (some_inside o.snapshot t.snapshot h)

-- where a session looks, and its number
where_looks : (e : Held) (p : Plain) (session : ℕ) → StandsFor e p → SameSession e p session (open_at p.sessions session)
    → (looks_at e session ≡ plain.looks_at p.journal (open_at p.sessions session)) × (own_at e session ≡ own_number (number_at e.seats) session (open_at p.sessions session)) × (is_some (open_at p.sessions session) ≡ is_some (opened_at e.seats session))
where_looks e p session s (Closed own seat) = (
  ap (λ o. unwrap_or (opened_snapshot o) e.counts.entries) seat ∙ s.counts.entries ∙ ap (plain.looks_at p.journal) (sym own),
  ap (λ o. option_map (λ (x : Opened). x.number) o) seat ∙ ap (own_number (number_at e.seats) session) (sym own),
  ap is_some own ∙ ap is_some (sym seat),
)
where_looks e p session s (Open t o own seat same) = (
  ap (λ x. unwrap_or (opened_snapshot x) e.counts.entries) seat ∙ same ∙ ap (plain.looks_at p.journal) (sym own),
  ap (λ x. option_map (λ (y : Opened). y.number) x) seat ∙ ap (λ x. Some (unwrap_or (option_map (λ (y : Opened). y.number) x) 0)) (sym seat) ∙ ap (own_number (number_at e.seats) session) (sym own),
  ap is_some own ∙ ap is_some (sym seat),
)

pub reads : (e : Held) (p : Plain) (session : ℕ) → session < 17 → (s : StandsFor e p) → Reads e session (view p session) s.rows.held
reads e p session small s =
    let own = open_at p.sessions session in
    let w = where_looks e p session s (same_session e p session s.seats) in
    let inside : session < length p.sessions = omega (arith, small, s.plain.seats) in
    record {
      tables = sym s.counts.tables;
      is_open = w.2;
      bytes = s.seats.payloads session small;
      sorted = finmap.entries_sorted (seen_by p.journal own);
      shown = λ id. sym (finmap.get-entries (seen_by p.journal own) id)
          ∙ get-seen e.rows.fates s.rows.held p.sessions (number_at e.seats) p.journal p.opening session id own refl s.plain.opened.1 s.rows.exact s.rows.transactions
          ∙ (λ i. shown_by (counts e.rows.fates (sym w.0 i) (sym w.1 i)) (s.rows.held id));
      taken = λ id. taken-is e.rows.fates s.rows.held p.sessions (number_at e.seats) p.journal p.opening session id own inside refl s.plain.opened.1 s.rows.exact s.rows.transactions
          ∙ (λ i. ended_by (may_take e.rows.fates (sym w.0 i) (sym w.1 i)) (s.rows.held id));
      entries = sym s.counts.entries;
      commits = sym s.counts.commits;
      next_id = sym s.counts.next_id;
      rows_limit = sym s.counts.rows_limit;
      pending = sym s.counts.pending;
    }
