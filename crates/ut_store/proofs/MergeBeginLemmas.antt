-- A merge into main that begins keeps the store standing for the plain state.
use Rattle.std.proofs.Common.{ℕ, ◌+◌, ◌<◌, ◌≡◌, inl, inr, cond, List, length, map, Option, None, Some, refl, sym, ap, ◌∙◌, subst, arith, IsTrue, slice_get, slice_set}
use Rattle.std.proofs.lemmas.Bool.{cases_eq, eq-eqb, ne_eqb}
use Rattle.std.proofs.lemmas.List.{length-map}
use Rattle.std.specs.Option.{option_map}
use Rattle.ut_value.specs.declared.entry.MergeKind.{MergeKind}
use Rattle.ut_value.specs.declared.entry.Entry.TheVariants as entries
use Rattle.ut_value.specs.Spelling.{spelling}
use Rattle.ut_plain.specs.declared.stage.PendingMerge.{PendingMerge}
use Rattle.ut_plain.specs.declared.stage.TableStages.{TableStages}
use Rattle.ut_plain.specs.declared.statement.Statement.TheVariants.{MergeBegin}
use Rattle.ut_plain.specs.declared.reply.Reply.TheVariants as replies
use Rattle.ut_plain.specs.State.{State}
use Rattle.ut_plain.specs.Journal.{journal_len, current, appended}
use Rattle.ut_plain.specs.Plain.{Plain}
use Rattle.ut_plain.specs.Merges.{closing, is_kept}
use Rattle.ut_plain.specs.Reached.{IsAtRest, AreMerges}
use Rattle.ut_plain.specs.Spelled.{is_spelled}
use Rattle.ut_plain.specs.Stages.{Stages, stages_at, with_stages}
use Rattle.ut_plain.specs.Step as plain
use Rattle.ut_plain.specs.Tables.{place_in}
use Rattle.ut_plain.specs.View.{view}
use Rattle.ut_plain.proofs.JournalLaws.{current-appended, journal_len-appended}
use Rattle.ut_stamps.specs.Kept.{stamp_keeps}
use Rattle.ut_stamps.specs.declared.place.Place.{Place}
use Rattle.ut_exact.specs.Gone.{IsGone}
use Rattle.ut_exact.specs.Dropped.{AreDropped}
use Rattle.ut_exact.specs.Places.{StagedRow}
use Rattle.ut_exact.proofs.ExactLemmas.{IsExact-entry}
use Rattle.ut_exact.proofs.SessionLemmas.{AreOpen-entry}
use Rattle.ut_staged.specs.Staged.{Staged, row_at, placed_of, stages_of, closed_l2}
use Rattle.ut_staged.specs.Keeping.{taken_over, HaveOwnIds}
use Rattle.ut_staged.proofs.ListLemmas.{get-within, get-set_same, get-set_other, map-set, some_same}
use Rattle.ut_staged.proofs.TableLemmas.{stages-here, stages-set, map-kept}
use Rattle.ut_staged.proofs.BeginLemmas.{AreHeld-closed, AreDropped-closing}
use Rattle.ut_staged.proofs.FlagLemmas.{kept_here, stages-closed, own_ids}
use Rattle.ut_txn.specs.Seats.{number_at, snapshots_of}
use Rattle.ut_store.specs.declared.response.Response.TheVariants.{Append}
use Rattle.ut_store.specs.Held.{Held}
use Rattle.ut_tables.specs.Standing.{AreMerging}
use Rattle.ut_store.specs.Stands.{StandsFor}
use Rattle.ut_store.specs.Answers.{Answers}
use Rattle.ut_store.specs.Allowed.{IsRefused}
use Rattle.ut_store.specs.Merging.{next_merge, flags_now, merge_begun}
use Rattle.ut_store.proofs.SnapshotLemmas.{are_snapshots}
use Rattle.ut_store.proofs.StandsLemmas.{answer_by}

-- ---- the merges of the tables

-- that of one table is the pending one now
pub merging-begun : (m : PendingMerge) (merges : List (Option PendingMerge)) → m.table < length merges → AreMerging None merges → AreMerging (Some m) (slice_set merges m.table (Some m))
merging-begun m merges small h n merge is = elim (cases_eq n m.table) [
  | inl same ↦ some_same merge (Some m) (sym is ∙ ap (slice_get (slice_set merges m.table (Some m))) same ∙ get-set_same merges m.table (Some m) small) ∙ sym (ap (λ b. cond b (Some m) None) (eq-eqb n m.table same))
  | inr other ↦ h n merge (sym (get-set_other merges m.table n (Some m) other) ∙ is) ∙ sym (ap (λ b. cond b (Some m) None) (ne_eqb n m.table other))
]

-- ---- nothing is being merged

pub at_rest : (e : Held) (p : Plain) → StandsFor e p → e.counts.pending ≡ None → (n : ℕ) → IsAtRest (stages_at p.stages n)
at_rest e p s idle = subst (λ o. AreMerges o p.stages (current p.journal).merges (journal_len p.journal)) (sym s.counts.pending ∙ idle) s.plain.merges

closed_none : (o : Option (List StagedRow)) → option_map (map placed_of) o ≡ None → o ≡ None
closed_none None h = refl
closed_none (Some rows) h = cc

pub not_closed : (e : Held) (p : Plain) → StandsFor e p → e.counts.pending ≡ None → (n : ℕ) (s : Staged) → slice_get e.rows.staged n ≡ Some s → s.closed ≡ None
not_closed e p st idle n s is = closed_none s.closed (ap (λ (t : TableStages). t.closed) (sym (ap (λ x. stages_at x n) st.rows.stages ∙ stages-here e.rows.staged n s is)) ∙ (at_rest e p st idle n).closed)

-- the rows that are kept have ids of their own
pub kept_ids : (e : Held) (p : Plain) → StandsFor e p → e.counts.pending ≡ None → (n : ℕ) (s : Staged) (kind : MergeKind) → slice_get e.rows.staged n ≡ Some s → HaveOwnIds (taken_over kind (flags_now e kind s) s)
kept_ids e p st idle n s kind is =
    own_ids e.rows.staged n s (next_merge e n kind) e.rows.fates (snapshots_of e.seats) (IsGone e.rows.fates p.sessions) st.rows.held is (not_closed e p st idle n s is) st.rows.places st.rows.dead

-- ---- the merge begins

pub merge_begins : (e : Held) (session : ℕ) (name : List ℕ) (kind : MergeKind) (n : ℕ) (s : Staged) → IsTrue (is_spelled (MergeBegin name kind)) → IsRefused e session (MergeBegin name kind) None
    → slice_get e.rows.staged n ≡ Some s → e.counts.pending ≡ None → ((p : Plain) → StandsFor e p → place_in (view p session).tables name ≡ n)
    → Answers e session (MergeBegin name kind) (Append (replies.Merge (e.counts.merges + 1))) (merge_begun e n kind s)
merge_begins e session name kind n s spelled h is idle place = record {
  each = λ p st.
      let head = next_merge e n kind in
      let keep = flags_now e kind s in
      let entry = entries.Begun ((current p.journal).merges + 1) n kind in
      let now = current-appended p.journal entry in
      let looks = are_snapshots e.seats p.sessions st.seats in
      let alike : (q : Place) (row : StagedRow) → row_at s q ≡ Some row → stamp_keeps e.rows.fates (snapshots_of e.seats) row.stamp ≡ is_kept p.journal p.sessions (placed_of row) =
      kept_here e.rows.staged e.rows.fates st.rows.held p.sessions (number_at e.seats) p.journal p.opening (snapshots_of e.seats) st.rows.exact st.rows.transactions st.plain.opened.1 looks st.rows.places st.rows.dead n s is in
      let here : stages_at p.stages n ≡ stages_of s = ap (λ x. stages_at x n) st.rows.stages ∙ stages-here e.rows.staged n s is in
      answer_by e (merge_begun e n kind s) session (MergeBegin name kind) (Append (replies.Merge (e.counts.merges + 1))) p (plain.merge_begun p n kind) spelled (h.is p st) st
      (ap (λ k. plain.merge_begun p k kind) (place p st)) (ap (λ k. replies.Merge (k + 1)) st.counts.merges)
      (record {
        tables = st.counts.tables ∙ sym (ap (λ (x : State). x.tables) now);
        commits = st.counts.commits ∙ sym (ap (λ (x : State). x.commits) now);
        merges = ap (λ k. k + 1) st.counts.merges ∙ sym (ap (λ (x : State). x.merges) now);
        entries = ap (λ k. k + 1) st.counts.entries ∙ sym (journal_len-appended p.journal entry);
        next_id = st.counts.next_id;
        rows_limit = st.counts.rows_limit;
        pending = ap (λ k. Some (record { number = k + 1; table = n; kind = kind })) st.counts.merges;
      })
      st.seats
      (record {
        held = st.rows.held;
        places = AreHeld-closed e.rows.staged n s head keep (IsGone e.rows.fates p.sessions) st.rows.held is (not_closed e p st idle n s is) st.rows.places;
        dropped = subst (λ (x : Stages). AreDropped (with_stages (closing p.journal p.sessions kind) n x) (IsGone e.rows.fates p.sessions) st.rows.held) (sym st.rows.stages)
            (AreDropped-closing e.rows.staged e.rows.fates st.rows.held p.sessions (number_at e.seats) p.journal p.opening (snapshots_of e.seats) st.rows.exact st.rows.transactions st.plain.opened.1 looks st.rows.places n s kind is
            (λ m. ap (λ (x : Stages). (stages_at x m).keep) (sym st.rows.stages) ∙ (at_rest e p st idle m).keep));
        free = st.rows.free;
        exact = IsExact-entry e.rows.fates st.rows.held p.journal p.opening entry st.plain.opened.1 refl (λ id. refl) st.rows.exact;
        transactions = AreOpen-entry e.rows.fates st.rows.held p.sessions (number_at e.seats) p.journal (appended p.journal entry) p.opening (omega (arith, journal_len-appended p.journal entry)) st.rows.transactions;
        dead = st.rows.dead;
        started = st.rows.started;
        stages = (λ i. slice_set (st.rows.stages i) n (closing p.journal p.sessions kind (here i)))
            ∙ ap (slice_set (map stages_of e.rows.staged) n) (sym (stages-closed e.rows.fates (snapshots_of e.seats) p.journal p.sessions head s alike)) ∙ sym (stages-set e.rows.staged n (closed_l2 head keep s));
        columns = map-kept (λ (x : Staged). x.columns) e.rows.staged n s (closed_l2 head keep s) is refl ∙ st.rows.columns;
        merging = subst (AreMerging (Some head)) (sym (map-set (λ (x : Staged). x.merge) e.rows.staged n (closed_l2 head keep s)))
            (merging-begun head (map (λ (x : Staged). x.merge) e.rows.staged) (omega (arith, get-within e.rows.staged n s is, length-map e.rows.staged (λ (x : Staged). x.merge)))
            (subst (λ (o : Option PendingMerge). AreMerging o (map (λ (x : Staged). x.merge) e.rows.staged)) idle st.rows.merging));
      })
      (entry, refl, ap (λ k. spelling (entries.Begun (k + 1) n kind)) st.counts.merges);
}
