-- How changes of rows keep the store standing for the plain state: in a transaction, alone, and when the transaction commits.
use Rattle.std.proofs.Common.{ℕ, suc, ◌+◌, ◌<◌, ◌≡◌, ◌≢◌, inl, inr, List, [], ◌∷◌, ◌++◌, length, Option, None, Some, refl, sym, ap, ◌∙◌, subst, arith, IsTrue, slice_set, unwrap_or, length-append, length-set}
use Rattle.std.proofs.lemmas.Bool.{cases_eq}
use Rattle.std.specs.Option.{option_map}
use Rattle.ut_value.specs.declared.entry.Op.{Op}
use Rattle.ut_value.specs.declared.entry.Entry.TheVariants as entries
use Rattle.ut_value.specs.Spelling.{spelling}
use Rattle.ut_plain.specs.declared.transaction.OpenTransaction.{OpenTransaction}
use Rattle.ut_plain.specs.declared.statement.Statement.{Statement}
use Rattle.ut_plain.specs.declared.statement.Statement.TheVariants.{Commit}
use Rattle.ut_plain.specs.declared.reply.Reply.TheVariants as replies
use Rattle.ut_plain.specs.State.{State}
use Rattle.ut_plain.specs.Rows.{inserts_of}
use Rattle.ut_plain.specs.Journal.{journal_len, current, appended}
use Rattle.ut_plain.specs.Plain.{Plain, open_at, with_entry}
use Rattle.ut_plain.specs.Spelled.{is_spelled}
use Rattle.ut_plain.specs.View.{view, own_ops}
use Rattle.ut_plain.specs.Made.{made, changes}
use Rattle.ut_plain.specs.Stages.{with_inserts}
use Rattle.ut_plain.specs.Step.{Stepped, effect_of, changed, is_bulk, with_made, said_changed, committed, committed_by, closed}
use Rattle.ut_plain.proofs.JournalLaws.{current-appended, journal_len-appended}
use Rattle.ut_stamps.specs.declared.fates.Fate.TheVariants.{Running, Committed}
use Rattle.ut_exact.specs.Exact.{IsExact, IsOwn, AreOpen}
use Rattle.ut_exact.specs.Work.{Fits, applied}
use Rattle.ut_exact.proofs.FateLemmas.{fate-push_new}
use Rattle.ut_exact.proofs.ExactLemmas.{IsExact-start, IsExact-commit}
use Rattle.ut_exact.proofs.OwnLemmas.{IsOwn-start}
use Rattle.ut_exact.proofs.SessionLemmas.{AreOpen-changed, AreOpen-alone, AreOpen-closed, AreOpen-renumbered}
use Rattle.ut_exact.proofs.WorkLemmas.{working-applied, other-applied}
use Rattle.ut_staged.specs.Staged.{Staged}
use Rattle.ut_txn.specs.declared.opened.Opened.{Opened}
use Rattle.ut_txn.specs.Seats.{Seat, opened_at, payload_at, number_at, SeatSet, SeatsStay}
use Rattle.ut_store.specs.declared.response.Response.TheVariants.{Answered, Append}
use Rattle.ut_store.specs.Held.{Held}
use Rattle.ut_tables.specs.Standing.{AreMerging}
use Rattle.ut_store.specs.Stands.{StandsFor, AreCounts}
use Rattle.ut_store.specs.Answers.{Answer, Answers}
use Rattle.ut_store.specs.Allowed.{IsRefused}
use Rattle.ut_plain.proofs.MainLemmas.{same-with_inserts}
use Rattle.ut_exact.specs.Gone.{IsGone}
use Rattle.ut_exact.proofs.GoneLemmas.{gone-started, gone-ended, gone-alone, gone-changed, gone-closed}
use Rattle.ut_exact.proofs.PlaceLemmas.{AreHeld-gone}
use Rattle.ut_exact.proofs.DroppedLemmas.{AreDropped-gone, AreDropped-same, AreDropped-applied}
use Rattle.ut_staged.specs.Staging.{Staging}
use Rattle.ut_store.proofs.SeatLemmas.{AreSeats-set, numbers-set, seats-stay, numbers-stay}
use Rattle.ut_store.proofs.StandsLemmas.{answer_by, IsOpenOn, By, open_on, number_is, no_payload, dead_set, dead_pushed, renumbered}
use Rattle.ut_staged.specs.Tables.{place_at}

-- a statement that makes these operations and changes so many rows
pub record Makes (e : Held) (session : ℕ) (st : Statement) (os : List Op) (rows : ℕ) : Type 0 where
  pub changes_rows : (p : Plain) → effect_of p session st ≡ changed p session st
  pub operations : (p : Plain) → StandsFor e p → made (view p session).tables (view p session).rows (view p session).next_id st ≡ os
  pub count : (p : Plain) → StandsFor e p → changes (view p session).tables (view p session).rows st ≡ rows

-- the change, from what is read
abbrev changed_by : Plain → ℕ → Statement → Option OpenTransaction → List Op → ℕ → Stepped
changed_by p session st own os rows =
    record { reply = said_changed own (current p.journal).commits rows; plain = record (with_made p session own os) { next_id = p.next_id + inserts_of os; stages = with_inserts (is_bulk st) p.stages os } }

changed_is : (e : Held) (p : Plain) (session : ℕ) (st : Statement) (own : Option OpenTransaction) (os : List Op) (rows : ℕ) → StandsFor e p → Makes e session st os rows → open_at p.sessions session ≡ own
    → effect_of p session st ≡ changed_by p session st own os rows
changed_is e p session st own os rows s m is = m.changes_rows p ∙ (λ i. changed_by p session st (is i) (m.operations p s i) (m.count p s i))

-- ---- in a transaction

pub changed_inside : (e : Held) (staged : List Staged) (seats : List Seat) (frame : List ℕ) (session : ℕ) (st : Statement) (o : Opened) (os : List Op) (rows : ℕ) → 0 < session → session < 17
    → IsTrue (is_spelled st) → IsRefused e session st None → opened_at e.seats session ≡ Some o → Makes e session st os rows
    → ((p : Plain) (s : StandsFor e p) → Fits e.rows.fates o.snapshot o.number e.counts.next_id s.rows.held os)
    → Staging e.rows.staged staged o.number (is_bulk st) e.counts.next_id os
    → ((ps : List Op) → payload_at e.seats session ≡ spelling (entries.Txn ps) → payload_at seats session ≡ spelling (entries.Txn (ps ++ os)))
    → SeatSet e.seats seats session (Some o) (payload_at seats session)
    → Answers e session st (Answered (replies.Changed rows None)) (record e { rows = record e.rows { staged = staged }; seats = seats; counts = record e.counts { next_id = e.counts.next_id + inserts_of os }; frame = frame })
changed_inside e staged seats frame session st o os rows some small spelled h is makes fits staging bytes set = record { each = λ p s. by p s (open_on e p session o is s.seats) }
  where
    by : (p : Plain) (s : StandsFor e p) → IsOpenOn e p session o → Answer e session st (Answered (replies.Changed rows None)) (record e { rows = record e.rows { staged = staged }; seats = seats; counts = record e.counts { next_id = e.counts.next_id + inserts_of os }; frame = frame }) p
    by p s (By t own look) =
        let new : OpenTransaction = record { snapshot = t.snapshot; ops = t.ops ++ os } in
        let inside : session < length p.sessions = omega (arith, small, s.plain.seats) in
        let number = number_is e.seats session o is in
        let mine : IsOwn e.rows.fates s.rows.held o.number t.ops = subst (λ n. IsOwn e.rows.fates s.rows.held n t.ops) number (s.rows.transactions.own session t own) in
        let held = applied o.number s.rows.held os in
        let w = working-applied e.rows.fates s.rows.held e.counts.next_id p.journal p.opening o.number o.snapshot t.ops os (record { free = s.rows.free; exact = s.rows.exact; own = mine }) (fits p s) in
        let others : (r : ℕ) (u : OpenTransaction) → number_at e.seats r ≢ number_at e.seats session → IsOwn e.rows.fates s.rows.held (number_at e.seats r) u.ops → IsOwn e.rows.fates held (number_at e.seats r) u.ops =
        λ r u other x. other-applied e.rows.fates s.rows.held e.counts.next_id (number_at e.seats r) o.number o.snapshot u.ops os (λ same. other (same ∙ sym number)) s.rows.free x (fits p s) in
        let changed_sessions = AreOpen-changed e.rows.fates s.rows.held held p.sessions (number_at e.seats) p.journal p.opening session t new inside own refl
        (subst (λ n. IsOwn e.rows.fates held n (t.ops ++ os)) (sym number) w.own) others s.rows.transactions in
        answer_by e _ session st (Answered (replies.Changed rows None)) p (changed_by p session st (Some t) os rows) spelled (h.is p s) s (changed_is e p session st (Some t) os rows s makes own) refl
        (record { tables = s.counts.tables; commits = s.counts.commits; merges = s.counts.merges; entries = s.counts.entries; next_id = ap (λ n. n + inserts_of os) s.counts.next_id; rows_limit = s.counts.rows_limit; pending = s.counts.pending })
        (AreSeats-set e.seats seats p.sessions session (Some o) (payload_at seats session) (Some new) some small s.plain.seats (ap Some look)
        (bytes t.ops (s.seats.payloads session small ∙ ap (λ x. spelling (entries.Txn (own_ops x))) own)) set s.seats)
        (record {
          held = held;
          places = AreHeld-gone (place_at staged) (IsGone e.rows.fates p.sessions) (IsGone e.rows.fates (slice_set p.sessions session (Some new))) held (λ x. gone-changed e.rows.fates p.sessions x session t new inside own refl)
              (staging.places e.rows.fates p.sessions s.rows.held s.rows.free s.rows.places);
          dropped = AreDropped-same p.stages (with_inserts (is_bulk st) p.stages os) (IsGone e.rows.fates (slice_set p.sessions session (Some new))) held (same-with_inserts (is_bulk st) p.stages os)
              (AreDropped-gone p.stages (IsGone e.rows.fates p.sessions) (IsGone e.rows.fates (slice_set p.sessions session (Some new))) held (λ x. gone-changed e.rows.fates p.sessions x session t new inside own refl)
              (AreDropped-applied p.stages e.rows.fates p.sessions o.snapshot o.number e.counts.next_id s.rows.held os mine.running s.rows.free (fits p s) s.rows.dropped));
          free = w.free;
          exact = w.exact;
          transactions = AreOpen-renumbered e.rows.fates held (slice_set p.sessions session (Some new)) (number_at e.seats) (number_at seats) p.journal p.opening (λ r u g. same_number r) changed_sessions;
          dead = s.rows.dead;
          started = s.rows.started;
          stages = ap (λ x. with_inserts (is_bulk st) x os) s.rows.stages ∙ sym staging.stages;
          columns = staging.columns ∙ s.rows.columns;
          merging = subst (AreMerging e.counts.pending) (sym staging.merges) s.rows.merging;
        })
        refl
      where
        same_number : (r : ℕ) → number_at seats r ≡ number_at e.seats r
        same_number r = elim (cases_eq r session) [
          | inl same ↦ ap (number_at seats) same ∙ ap (λ x. unwrap_or (option_map (λ (y : Opened). y.number) x) 0) (set.opened ∙ sym is) ∙ ap (number_at e.seats) (sym same)
          | inr other ↦ numbers-set e.seats seats session (Some o) (payload_at seats session) r set other
        ]

-- ---- one entry more

-- one entry of operations more
counts-txn : (e : Held) (p q : Plain) (os : List Op) (new : Held) → q.journal ≡ appended p.journal (entries.Txn os) → new.rows.tables ≡ e.rows.tables → new.counts.commits ≡ e.counts.commits + 1 → new.counts.entries ≡ e.counts.entries + 1 → new.counts.next_id ≡ q.next_id → new.counts.rows_limit ≡ q.rows_limit
    → new.counts.merges ≡ e.counts.merges → new.counts.pending ≡ e.counts.pending → q.pending ≡ p.pending → AreCounts e p → AreCounts new q
counts-txn e p q os new journal tables commits entries_are next limit merges pending was c =
    let now = ap current journal ∙ current-appended p.journal (entries.Txn os) in
    record {
      tables = tables ∙ c.tables ∙ sym (ap (λ (x : State). x.tables) now);
      commits = commits ∙ ap (λ n. n + 1) c.commits ∙ sym (ap (λ (x : State). x.commits) now);
      entries = entries_are ∙ ap (λ n. n + 1) c.entries ∙ sym (ap journal_len journal ∙ journal_len-appended p.journal (entries.Txn os));
      merges = merges ∙ c.merges ∙ sym (ap (λ (x : State). x.merges) now);
      next_id = next;
      rows_limit = limit;
      pending = pending ∙ c.pending ∙ sym was;
    }

-- ---- alone

pub changed_nothing : (e new : Held) (session : ℕ) (st : Statement) → session < 17 → IsTrue (is_spelled st) → IsRefused e session st None → Makes e session st [] 0 → opened_at e.seats session ≡ None
    → ((p : Plain) → StandsFor e p → open_at p.sessions session ≡ None) → ((p : Plain) → StandsFor e p → StandsFor new p)
    → Answers e session st (Answered (replies.Changed 0 None)) new
changed_nothing e new session st small spelled h makes closed_is closed_on same = record {
  each = λ p s.
      let q = same p s in
      let nothing_more : p.next_id ≡ p.next_id + inserts_of [] = omega arith in
      let does : effect_of p session st ≡ record { reply = replies.Changed 0 None; plain = p } =
      changed_is e p session st None [] 0 s makes (closed_on p s) ∙ (λ i. record { reply = replies.Changed 0 None; plain = record p { next_id = sym nothing_more i } }) in
      answer_by e new session st (Answered (replies.Changed 0 None)) p (record { reply = replies.Changed 0 None; plain = p }) spelled (h.is p s) s does refl q.counts q.seats q.rows refl;
}

pub changed_alone : (e : Held) (staged : List Staged) (seats : List Seat) (frame : List ℕ) (session : ℕ) (st : Statement) (op : Op) (rest : List Op) (rows : ℕ) → session < 17
    → IsTrue (is_spelled st) → IsRefused e session st None → ((p : Plain) → StandsFor e p → open_at p.sessions session ≡ None) → Makes e session st (op ∷ rest) (suc rows)
    → ((p : Plain) (s : StandsFor e p) → Fits (e.rows.fates ++ Running ∷ []) e.counts.entries (length e.rows.fates) e.counts.next_id s.rows.held (op ∷ rest))
    → Staging e.rows.staged staged (length e.rows.fates) (is_bulk st) e.counts.next_id (op ∷ rest)
    → frame ≡ spelling (entries.Txn (op ∷ rest)) → SeatsStay e.seats seats
    → Answers e session st (Append (replies.Changed (suc rows) (Some (e.counts.commits + 1))))
    (record e { rows = record e.rows { staged = staged; fates = slice_set (e.rows.fates ++ Running ∷ []) (length e.rows.fates) (Committed (e.counts.entries + 1)) }; seats = seats; counts = record e.counts { next_id = e.counts.next_id + inserts_of (op ∷ rest); commits = e.counts.commits + 1; entries = e.counts.entries + 1 }; frame = frame })
changed_alone e staged seats frame session st op rest rows small spelled h closed_on makes fits staging spells stay = record { each = λ p s. by p s }
  where
    os : List Op
    os = op ∷ rest

    t : ℕ
    t = length e.rows.fates

    new : Held
    new = record e { rows = record e.rows { staged = staged; fates = slice_set (e.rows.fates ++ Running ∷ []) (length e.rows.fates) (Committed (e.counts.entries + 1)) }; seats = seats; counts = record e.counts { next_id = e.counts.next_id + inserts_of (op ∷ rest); commits = e.counts.commits + 1; entries = e.counts.entries + 1 }; frame = frame }

    by : (p : Plain) (s : StandsFor e p) → Answer e session st (Append (replies.Changed (suc rows) (Some (e.counts.commits + 1)))) (record e { rows = record e.rows { staged = staged; fates = slice_set (e.rows.fates ++ Running ∷ []) (length e.rows.fates) (Committed (e.counts.entries + 1)) }; seats = seats; counts = record e.counts { next_id = e.counts.next_id + inserts_of (op ∷ rest); commits = e.counts.commits + 1; entries = e.counts.entries + 1 }; frame = frame }) p
    by p s =
        let fates = e.rows.fates ++ Running ∷ [] in
        let n = length e.rows.fates in
        let held = applied n s.rows.held (op ∷ rest) in
        let entry = entries.Txn (op ∷ rest) in
        let w = working-applied fates s.rows.held e.counts.next_id p.journal p.opening n e.counts.entries [] (op ∷ rest)
        (record { free = s.rows.free; exact = IsExact-start e.rows.fates s.rows.held p.journal p.opening s.rows.exact; own = IsOwn-start e.rows.fates s.rows.held p.journal p.opening s.rows.exact }) (fits p s) in
        let others : (r : ℕ) (u : OpenTransaction) → number_at e.seats r ≢ n → IsOwn fates s.rows.held (number_at e.seats r) u.ops → IsOwn fates held (number_at e.seats r) u.ops =
        λ r u other x. other-applied fates s.rows.held e.counts.next_id (number_at e.seats r) n e.counts.entries u.ops (op ∷ rest) other s.rows.free x (fits p s) in
        let length_is = s.counts.entries in
        let now = slice_set fates n (Committed (e.counts.entries + 1)) in
        let q = changed_by p session st None (op ∷ rest) (suc rows) in
        answer_by e _ session st (Append (replies.Changed (suc rows) (Some (e.counts.commits + 1)))) p q spelled (h.is p s) s (changed_is e p session st None (op ∷ rest) (suc rows) s makes (closed_on p s))
        (ap (λ c. replies.Changed (suc rows) (Some (c + 1))) s.counts.commits)
        (counts-txn e p q.plain (op ∷ rest) _ refl refl refl refl (ap (λ m. m + inserts_of (op ∷ rest)) s.counts.next_id) s.counts.rows_limit refl refl refl s.counts)
        (seats-stay e.seats seats p.sessions stay s.seats)
        (record {
          held = held;
          places = staging.places now p.sessions s.rows.held s.rows.free (AreHeld-gone (place_at e.rows.staged) (IsGone e.rows.fates p.sessions) (IsGone now p.sessions) s.rows.held (λ x. gone-alone e.rows.fates p.sessions x (Committed (e.counts.entries + 1))) s.rows.places);
          dropped = AreDropped-same p.stages (with_inserts (is_bulk st) p.stages (op ∷ rest)) (IsGone now p.sessions) held (same-with_inserts (is_bulk st) p.stages (op ∷ rest))
              (AreDropped-gone p.stages (IsGone fates p.sessions) (IsGone now p.sessions) held (λ x. gone-ended fates p.sessions x n (Committed (e.counts.entries + 1)) (fate-push_new e.rows.fates Running))
              (AreDropped-applied p.stages fates p.sessions e.counts.entries n e.counts.next_id s.rows.held (op ∷ rest) (fate-push_new e.rows.fates Running) s.rows.free (fits p s)
              (AreDropped-gone p.stages (IsGone e.rows.fates p.sessions) (IsGone fates p.sessions) s.rows.held (λ x. gone-started e.rows.fates p.sessions x) s.rows.dropped)));
          free = w.free;
          exact = subst (λ m. IsExact (slice_set fates n (Committed (m + 1))) held (appended p.journal entry) p.opening) (sym length_is)
              (IsExact-commit fates held p.journal p.opening n (op ∷ rest) s.plain.opened.1 w.own w.exact);
          transactions = AreOpen-renumbered now held p.sessions (number_at e.seats) (number_at seats) (appended p.journal entry) p.opening (λ r u g. numbers-stay e.seats seats r stay)
              (AreOpen-alone e.rows.fates (Committed (e.counts.entries + 1)) s.rows.held held p.sessions (number_at e.seats) p.journal (appended p.journal entry) p.opening refl (omega (arith, journal_len-appended p.journal entry)) others s.rows.transactions);
          dead = dead_set fates n (Committed (e.counts.entries + 1)) (fate-push_new e.rows.fates Running) (dead_pushed e.rows.fates Running s.rows.started s.rows.dead);
          started = omega (arith, s.rows.started, length-set fates n (Committed (e.counts.entries + 1)), length-append e.rows.fates (Running ∷ []));
          stages = ap (λ x. with_inserts (is_bulk st) x (op ∷ rest)) s.rows.stages ∙ sym staging.stages;
          columns = staging.columns ∙ s.rows.columns;
          merging = subst (AreMerging e.counts.pending) (sym staging.merges) s.rows.merging;
        })
        (entry, refl, spells)

-- ---- a transaction commits

pub committed_something : (e : Held) (seats : List Seat) (frame : List ℕ) (session : ℕ) (o : Opened) → 0 < session → session < 17 → IsRefused e session Commit None → opened_at e.seats session ≡ Some o
    → payload_at e.seats session ≢ no_payload → frame ≡ payload_at e.seats session → SeatSet e.seats seats session None no_payload
    → Answers e session Commit (Append (replies.Committed (e.counts.commits + 1)))
    (record e { rows = record e.rows { fates = slice_set e.rows.fates o.number (Committed (e.counts.entries + 1)) }; seats = seats; counts = record e.counts { commits = e.counts.commits + 1; entries = e.counts.entries + 1 }; frame = frame })
committed_something e seats frame session o some small h is has frame_is set = record { each = λ p s. by p s (open_on e p session o is s.seats) }
  where
    by_ops : (p : Plain) (s : StandsFor e p) (t : OpenTransaction) (os : List Op) → t.ops ≡ os → open_at p.sessions session ≡ Some t
        → Answer e session Commit (Append (replies.Committed (e.counts.commits + 1))) (record e { rows = record e.rows { fates = slice_set e.rows.fates o.number (Committed (e.counts.entries + 1)) }; seats = seats; counts = record e.counts { commits = e.counts.commits + 1; entries = e.counts.entries + 1 }; frame = frame }) p
    by_ops p s t [] are own = absurd (has (s.seats.payloads session small ∙ ap (λ x. spelling (entries.Txn (own_ops x))) own ∙ ap (λ x. spelling (entries.Txn x)) are))
    by_ops p s t (op ∷ rest) are own =
        let entry = entries.Txn (op ∷ rest) in
        let number = number_is e.seats session o is in
        let inside : session < length p.sessions = omega (arith, small, s.plain.seats) in
        let mine : IsOwn e.rows.fates s.rows.held o.number (op ∷ rest) = subst (λ x. IsOwn e.rows.fates s.rows.held o.number x) are (subst (λ n. IsOwn e.rows.fates s.rows.held n t.ops) number (s.rows.transactions.own session t own)) in
        let q : Stepped = record { reply = replies.Committed ((current p.journal).commits + 1); plain = closed (with_entry p entry) session } in
        let now = slice_set e.rows.fates o.number (Committed (e.counts.entries + 1)) in
        let ended = AreOpen-closed e.rows.fates (Committed (e.counts.entries + 1)) s.rows.held p.sessions (number_at e.seats) p.journal (appended p.journal entry) p.opening session t inside own refl (omega (arith, journal_len-appended p.journal entry)) s.rows.transactions in
        answer_by e _ session Commit (Append (replies.Committed (e.counts.commits + 1))) p q refl (h.is p s) s (ap (committed p session) own ∙ ap (committed_by p session) are)
        (ap (λ c. replies.Committed (c + 1)) s.counts.commits)
        (counts-txn e p q.plain (op ∷ rest) _ refl refl refl refl s.counts.next_id s.counts.rows_limit refl refl refl s.counts)
        (AreSeats-set e.seats seats p.sessions session None no_payload None some small s.plain.seats refl refl set s.seats)
        (record {
          held = s.rows.held;
          places = AreHeld-gone (place_at e.rows.staged) (IsGone e.rows.fates p.sessions) (IsGone now (slice_set p.sessions session None)) s.rows.held
              (λ x g. gone-ended e.rows.fates (slice_set p.sessions session None) x o.number (Committed (e.counts.entries + 1)) mine.running (gone-closed e.rows.fates p.sessions x session inside g)) s.rows.places;
          dropped = AreDropped-gone p.stages (IsGone e.rows.fates p.sessions) (IsGone now (slice_set p.sessions session None)) s.rows.held
              (λ x g. gone-ended e.rows.fates (slice_set p.sessions session None) x o.number (Committed (e.counts.entries + 1)) mine.running (gone-closed e.rows.fates p.sessions x session inside g)) s.rows.dropped;
          free = s.rows.free;
          exact = subst (λ m. IsExact (slice_set e.rows.fates o.number (Committed (m + 1))) s.rows.held (appended p.journal entry) p.opening) (sym s.counts.entries)
              (IsExact-commit e.rows.fates s.rows.held p.journal p.opening o.number (op ∷ rest) s.plain.opened.1 mine s.rows.exact);
          transactions = AreOpen-renumbered now s.rows.held (slice_set p.sessions session None) (number_at e.seats) (number_at seats) (appended p.journal entry) p.opening
              (λ r u g. renumbered e.seats seats p.sessions session None no_payload r u inside set g)
              (subst (λ n. AreOpen (slice_set e.rows.fates n (Committed (e.counts.entries + 1))) s.rows.held (slice_set p.sessions session None) (number_at e.seats) (appended p.journal entry) p.opening) number ended);
          dead = dead_set e.rows.fates o.number (Committed (e.counts.entries + 1)) mine.running s.rows.dead;
          started = omega (arith, s.rows.started, length-set e.rows.fates o.number (Committed (e.counts.entries + 1)));
          stages = s.rows.stages;
          columns = s.rows.columns;
          merging = s.rows.merging;
        })
        (entry, refl, frame_is ∙ s.seats.payloads session small ∙ ap (λ x. spelling (entries.Txn (own_ops x))) own ∙ ap (λ x. spelling (entries.Txn x)) are)

    by : (p : Plain) (s : StandsFor e p) → IsOpenOn e p session o → Answer e session Commit (Append (replies.Committed (e.counts.commits + 1))) (record e { rows = record e.rows { fates = slice_set e.rows.fates o.number (Committed (e.counts.entries + 1)) }; seats = seats; counts = record e.counts { commits = e.counts.commits + 1; entries = e.counts.entries + 1 }; frame = frame }) p
    by p s (By t own look) = by_ops p s t t.ops refl own
