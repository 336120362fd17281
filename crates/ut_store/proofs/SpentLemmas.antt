-- A transaction that was started for nothing.
use Rattle.std.proofs.Common.{ℕ, inl, inr, ◌≡◌, List, [], ◌∷◌, ◌++◌, length, length-append, length-set, refl, sym, subst, arith, slice_set}
use Rattle.ut_plain.specs.Plain.{Plain}
use Rattle.ut_stamps.specs.declared.fates.Fate.TheVariants.{Running, Aborted}
use Rattle.ut_exact.specs.Gone.{IsGone}
use Rattle.ut_exact.proofs.GoneLemmas.{gone-alone}
use Rattle.ut_exact.proofs.PlaceLemmas.{AreHeld-gone}
use Rattle.ut_exact.proofs.DroppedLemmas.{AreDropped-gone}
use Rattle.ut_exact.proofs.FateLemmas.{fate-push_new}
use Rattle.ut_exact.proofs.ExactLemmas.{IsExact-start, IsExact-abort}
use Rattle.ut_exact.proofs.SessionLemmas.{AreOpen-alone, AreOpen-renumbered}
use Rattle.ut_tables.specs.Rows.{Rows}
use Rattle.ut_tables.specs.Changed.{IsSpent, spent}
use Rattle.ut_txn.specs.Seats.{number_at, SeatsStay}
use Rattle.ut_store.specs.Held.{Held}
use Rattle.ut_store.specs.Stands.{StandsFor}
use Rattle.ut_store.specs.Answers.{Same}
use Rattle.ut_store.specs.Changes.{Stays}
use Rattle.ut_store.proofs.IndexLemmas.{seats_itself}
use Rattle.ut_store.proofs.FinishLemmas.{same_stays}
use Rattle.ut_store.proofs.SeatLemmas.{seats-stay, numbers-stay}
use Rattle.ut_store.proofs.StandsLemmas.{dead_set, dead_pushed}
use Rattle.ut_staged.specs.Tables.{place_at}

-- The store is as before, but for room and the fate of one transaction more, which aborted.
record Spent (old new : Held) : Type 0 where
  pub rows : new.rows ≡ spent old.rows
  pub seats : SeatsStay old.seats new.seats
  pub counts : new.counts ≡ old.counts

stands-spent : (old new : Held) → Spent old new → Stays old new
stands-spent old new c = record { each = λ p s. subst (λ (x : Held). StandsFor x p) (λ i. record { rows = sym c.rows i; seats = new.seats; counts = sym c.counts i; frame = new.frame }) (by p s) }
  where
    by : (p : Plain) → StandsFor old p → StandsFor (record { rows = record old.rows { fates = slice_set (old.rows.fates ++ Running ∷ []) (length old.rows.fates) Aborted }; seats = new.seats; counts = old.counts; frame = new.frame }) p
    by p s =
        let n = length old.rows.fates in
        let fates = slice_set (old.rows.fates ++ Running ∷ []) n Aborted in
        record {
          plain = s.plain;
          counts = record { tables = s.counts.tables; commits = s.counts.commits; merges = s.counts.merges; entries = s.counts.entries; next_id = s.counts.next_id; rows_limit = s.counts.rows_limit; pending = s.counts.pending };
          seats = seats-stay old.seats new.seats p.sessions c.seats s.seats;
          rows = record {
            held = s.rows.held;
            places = AreHeld-gone (place_at old.rows.staged) (IsGone old.rows.fates p.sessions) (IsGone fates p.sessions) s.rows.held (λ x. gone-alone old.rows.fates p.sessions x Aborted) s.rows.places;
            dropped = AreDropped-gone p.stages (IsGone old.rows.fates p.sessions) (IsGone fates p.sessions) s.rows.held (λ x. gone-alone old.rows.fates p.sessions x Aborted) s.rows.dropped;
            free = s.rows.free;
            exact = IsExact-abort (old.rows.fates ++ Running ∷ []) s.rows.held p.journal p.opening n (fate-push_new old.rows.fates Running) (IsExact-start old.rows.fates s.rows.held p.journal p.opening s.rows.exact);
            transactions = AreOpen-renumbered fates s.rows.held p.sessions (number_at old.seats) (number_at new.seats) p.journal p.opening (λ r u g. numbers-stay old.seats new.seats r c.seats)
                (AreOpen-alone old.rows.fates Aborted s.rows.held s.rows.held p.sessions (number_at old.seats) p.journal p.journal p.opening refl (omega arith) (λ r u other x. x) s.rows.transactions);
            dead = dead_set (old.rows.fates ++ Running ∷ []) n Aborted (fate-push_new old.rows.fates Running) (dead_pushed old.rows.fates Running s.rows.started s.rows.dead);
            started = omega (arith, s.rows.started, length-set (old.rows.fates ++ Running ∷ []) n Aborted, length-append old.rows.fates (Running ∷ []));
            stages = s.rows.stages;
            columns = s.rows.columns;
            merging = s.rows.merging;
          };
        }

-- where memory ran out, a transaction was given up, or nothing was started
pub spent_by : (inside e : Held) (rows : Rows) (frame : List ℕ) → inside ≡ e → IsSpent inside.rows rows → Stays e (record inside { rows = rows; frame = frame })
spent_by inside e rows frame same (inl kept) = same_stays e _ (subst (λ (x : Held). Same x (record inside { rows = rows; frame = frame })) same (record { rows = kept; seats = seats_itself inside.seats; counts = refl }))
spent_by inside e rows frame same (inr aborted) = stands-spent e _ (subst (λ (x : Held). Spent x (record inside { rows = rows; frame = frame })) same (record { rows = aborted; seats = seats_itself inside.seats; counts = refl }))

-- another frame changes nothing
pub framed_by : (inside e : Held) (frame : List ℕ) → inside ≡ e → Stays e (record inside { frame = frame })
framed_by inside e frame same = same_stays e _ (subst (λ (x : Held). Same x (record inside { frame = frame })) same (record { rows = refl; seats = seats_itself inside.seats; counts = refl }))
