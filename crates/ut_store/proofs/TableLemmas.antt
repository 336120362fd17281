-- How a new table, and a merge of the first stage, keep the store standing for the plain state.
use Rattle.std.proofs.Common.{ℕ, ◌+◌, ◌<◌, ◌≡◌, cond, List, [], ◌∷◌, ◌++◌, length, map, min, Option, None, Some, refl, sym, ap, ◌∙◌, subst, arith, IsTrue, slice_get, slice_set, unwrap_or}
use Rattle.std.proofs.lemmas.Bool.{ne_eqb}
use Rattle.std.proofs.lemmas.List.{length-map, map-append}
use Rattle.ut_value.specs.declared.value.Column.{Column}
use Rattle.ut_value.specs.declared.entry.Entry.TheVariants as entries
use Rattle.ut_value.specs.Spelling.{spelling}
use Rattle.ut_plain.specs.declared.table.Table.{Table}
use Rattle.ut_plain.specs.declared.stage.PendingMerge.{PendingMerge}
use Rattle.ut_plain.specs.declared.statement.Statement.TheVariants.{Create, MergeL1}
use Rattle.ut_plain.specs.declared.reply.Reply.TheVariants as replies
use Rattle.ut_plain.specs.State.{State}
use Rattle.ut_plain.specs.Journal.{journal_len, current, appended}
use Rattle.ut_plain.specs.Plain.{Plain}
use Rattle.ut_plain.specs.Reached.{AreMerges}
use Rattle.ut_plain.specs.Spelled.{is_spelled}
use Rattle.ut_plain.specs.View.{view}
use Rattle.ut_plain.specs.Tables.{place_in}
use Rattle.ut_plain.specs.Stages.{no_stages, stages_at, with_stages, moved, moved_count}
use Rattle.ut_plain.proofs.MainLemmas.{same-created, same-moved}
use Rattle.ut_plain.specs.Step.{created, merged_l1}
use Rattle.ut_plain.proofs.JournalLaws.{current-appended, journal_len-appended}
use Rattle.ut_exact.proofs.ExactLemmas.{IsExact-entry}
use Rattle.ut_exact.specs.Gone.{IsGone}
use Rattle.ut_exact.proofs.PlaceLemmas.{AreHeld-moved}
use Rattle.ut_exact.proofs.DroppedLemmas.{AreDropped-same}
use Rattle.ut_exact.proofs.SessionLemmas.{AreOpen-entry, AreOpen-renumbered}
use Rattle.ut_staged.specs.Staged.{Staged, no_rows, placed_of, stages_of}
use Rattle.ut_staged.specs.Staged as staged_tables
use Rattle.ut_staged.specs.Tables.{place_at, moved_in}
use Rattle.ut_staged.proofs.ListLemmas.{InPushed, Last, Before, in_pushed}
use Rattle.ut_staged.proofs.TableLemmas.{stages-here, stages-set, map-kept}
use Rattle.ut_staged.proofs.CreatedLemmas.{created_moved}
use Rattle.ut_staged.proofs.MovedLemmas.{back, moved_l1, stages-moved}
use Rattle.ut_txn.specs.Seats.{Seat, number_at, SeatsStay}
use Rattle.ut_store.specs.declared.response.Response.TheVariants.{Answered, Append}
use Rattle.ut_store.specs.Held.{Held}
use Rattle.ut_tables.specs.Standing.{AreMerging, merge_at}
use Rattle.ut_store.specs.Stands.{StandsFor}
use Rattle.ut_store.specs.Answers.{Answers}
use Rattle.ut_store.specs.Allowed.{IsRefused}
use Rattle.ut_store.proofs.SeatLemmas.{seats-stay, numbers-stay}
use Rattle.ut_store.proofs.StandsLemmas.{answer_by}

-- ---- a table more

-- the merge of no table is another where one more is there
merging-created : (pending : Option PendingMerge) (merges : List (Option PendingMerge)) → ((m : PendingMerge) → pending ≡ Some m → m.table < length merges) → AreMerging pending merges → AreMerging pending (merges ++ None ∷ [])
merging-created pending merges few h n merge is = by (in_pushed merges None n merge is)
  where
    none_at : (o : Option PendingMerge) → ((m : PendingMerge) → o ≡ Some m → m.table < length merges) → n ≡ length merges → None ≡ merge_at o n
    none_at None small at = refl
    none_at (Some m) small at =
        let lt = small m refl in
        ap (λ b. cond b (Some m) None) (sym (ne_eqb n m.table (λ same. absurd (omega (arith, lt, at, same)))))

    by : InPushed merges None n merge → merge ≡ merge_at pending n
    by (Last at same) = same ∙ none_at pending few at
    by (Before was) = h n merge was

-- a pending merge is of a table that is there
pending_there : (e : Held) (p : Plain) → StandsFor e p → (m : PendingMerge) → e.counts.pending ≡ Some m → m.table < length (map (λ (s : Staged). s.merge) e.rows.staged)
pending_there e p s m is = by p.pending (sym s.counts.pending ∙ is) s.plain.merges
  where
    count : length p.stages ≡ length (map (λ (x : Staged). x.merge) e.rows.staged)
    count = ap length s.rows.stages ∙ length-map e.rows.staged stages_of ∙ sym (length-map e.rows.staged (λ (x : Staged). x.merge))

    by : (o : Option PendingMerge) → o ≡ Some m → AreMerges o p.stages (current p.journal).merges (journal_len p.journal) → m.table < length (map (λ (x : Staged). x.merge) e.rows.staged)
    by None none all = cc
    by (Some x) same one = let small = one.table in omega (arith, small, count, ap (λ (o : Option PendingMerge). (unwrap_or o x).table) same)

pub made_table : (e : Held) (seats : List Seat) (frame : List ℕ) (session : ℕ) (name : List ℕ) (columns : List Column) → IsTrue (is_spelled (Create name columns)) → IsRefused e session (Create name columns) None
    → frame ≡ spelling (entries.Create name columns) → SeatsStay e.seats seats
    → Answers e session (Create name columns) (Append (replies.Committed (e.counts.commits + 1)))
    (record e { rows = record e.rows { tables = e.rows.tables ++ record { name = name; columns = columns } ∷ []; staged = e.rows.staged ++ no_rows columns ∷ [] }; seats = seats; counts = record e.counts { commits = e.counts.commits + 1; entries = e.counts.entries + 1 }; frame = frame })
made_table e seats frame session name columns spelled h spells stay = record {
  each = λ p s.
      let entry = entries.Create name columns in
      let now = current-appended p.journal entry in
      answer_by e _ session (Create name columns) (Append (replies.Committed (e.counts.commits + 1))) p (created p name columns) spelled (h.is p s) s refl
      (ap (λ c. replies.Committed (c + 1)) s.counts.commits)
      (record {
        tables = ap (λ ts. ts ++ record { name = name; columns = columns } ∷ []) s.counts.tables ∙ sym (ap (λ (x : State). x.tables) now);
        commits = ap (λ n. n + 1) s.counts.commits ∙ sym (ap (λ (x : State). x.commits) now);
        merges = s.counts.merges ∙ sym (ap (λ (x : State). x.merges) now);
        entries = ap (λ n. n + 1) s.counts.entries ∙ sym (journal_len-appended p.journal entry);
        next_id = s.counts.next_id;
        rows_limit = s.counts.rows_limit;
        pending = s.counts.pending;
      })
      (seats-stay e.seats seats p.sessions stay s.seats)
      (record {
        held = s.rows.held;
        places = AreHeld-moved (place_at e.rows.staged) (place_at (e.rows.staged ++ no_rows columns ∷ [])) (IsGone e.rows.fates p.sessions) s.rows.held (λ m q. q) s.rows.places (created_moved e.rows.staged columns);
        dropped = AreDropped-same p.stages (p.stages ++ no_stages ∷ []) (IsGone e.rows.fates p.sessions) s.rows.held (same-created p.stages) s.rows.dropped;
        free = s.rows.free;
        exact = IsExact-entry e.rows.fates s.rows.held p.journal p.opening entry s.plain.opened.1 refl (λ id. refl) s.rows.exact;
        transactions = AreOpen-renumbered e.rows.fates s.rows.held p.sessions (number_at e.seats) (number_at seats) (appended p.journal entry) p.opening (λ r u g. numbers-stay e.seats seats r stay)
            (AreOpen-entry e.rows.fates s.rows.held p.sessions (number_at e.seats) p.journal (appended p.journal entry) p.opening (omega (arith, journal_len-appended p.journal entry)) s.rows.transactions);
        dead = s.rows.dead;
        started = s.rows.started;
        stages = ap (λ x. x ++ no_stages ∷ []) s.rows.stages ∙ sym (map-append stages_of e.rows.staged (no_rows columns ∷ []));
        columns = map-append (λ (x : Staged). x.columns) e.rows.staged (no_rows columns ∷ []) ∙ ap (λ x. x ++ columns ∷ []) s.rows.columns
            ∙ sym (map-append (λ (x : Table). x.columns) e.rows.tables (record { name = name; columns = columns } ∷ []));
        merging = subst (AreMerging e.counts.pending) (sym (map-append (λ (x : Staged). x.merge) e.rows.staged (no_rows columns ∷ []))) (merging-created e.counts.pending (map (λ (x : Staged). x.merge) e.rows.staged) (pending_there e p s) s.rows.merging);
      })
      (entry, refl, spells);
}

-- ---- the first stage is merged into the second

pub moved_rows : (e : Held) (seats : List Seat) (frame : List ℕ) (session : ℕ) (name : List ℕ) (n table : ℕ) (s : Staged) → IsTrue (is_spelled (MergeL1 name n)) → IsRefused e session (MergeL1 name n) None
    → slice_get e.rows.staged table ≡ Some s → ((p : Plain) → StandsFor e p → place_in (view p session).tables name ≡ table) → SeatsStay e.seats seats
    → Answers e session (MergeL1 name n) (Answered (replies.Moved (min n (length s.l1)))) (record e { rows = record e.rows { staged = slice_set e.rows.staged table (staged_tables.merged_l1 n s) }; seats = seats; frame = frame })
moved_rows e seats frame session name n table s spelled h is place stay = record {
  each = λ p st.
      let at = stages-here e.rows.staged table s is in
      let here : stages_at p.stages table ≡ stages_of s = ap (λ x. stages_at x table) st.rows.stages ∙ at in
      answer_by e _ session (MergeL1 name n) (Answered (replies.Moved (min n (length s.l1)))) p (merged_l1 p table n) spelled (h.is p st) st (ap (λ k. merged_l1 p k n) (place p st))
      (ap (λ k. replies.Moved (min n k)) (sym (length-map s.l1 placed_of)) ∙ ap (λ x. replies.Moved (moved_count n x)) (sym here))
      (record { tables = st.counts.tables; commits = st.counts.commits; merges = st.counts.merges; entries = st.counts.entries; next_id = st.counts.next_id; rows_limit = st.counts.rows_limit; pending = st.counts.pending })
      (seats-stay e.seats seats p.sessions stay st.seats)
      (record {
        held = st.rows.held;
        places = AreHeld-moved (place_at e.rows.staged) (place_at (slice_set e.rows.staged table (staged_tables.merged_l1 n s))) (IsGone e.rows.fates p.sessions) st.rows.held (moved_in table (back n (length s.l2))) st.rows.places (moved_l1 e.rows.staged table n s is);
        dropped = AreDropped-same p.stages (with_stages (moved n) table p.stages) (IsGone e.rows.fates p.sessions) st.rows.held (same-moved n table p.stages) st.rows.dropped;
        free = st.rows.free;
        exact = st.rows.exact;
        transactions = AreOpen-renumbered e.rows.fates st.rows.held p.sessions (number_at e.seats) (number_at seats) p.journal p.opening (λ r u g. numbers-stay e.seats seats r stay) st.rows.transactions;
        dead = st.rows.dead;
        started = st.rows.started;
        stages = (λ i. slice_set (st.rows.stages i) table (moved n (here i))) ∙ ap (slice_set (map stages_of e.rows.staged) table) (sym (stages-moved n s)) ∙ sym (stages-set e.rows.staged table (staged_tables.merged_l1 n s));
        columns = map-kept (λ (x : Staged). x.columns) e.rows.staged table s (staged_tables.merged_l1 n s) is refl ∙ st.rows.columns;
        merging = subst (AreMerging e.counts.pending) (sym (map-kept (λ (x : Staged). x.merge) e.rows.staged table s (staged_tables.merged_l1 n s) is refl)) st.rows.merging;
      })
      refl;
}
