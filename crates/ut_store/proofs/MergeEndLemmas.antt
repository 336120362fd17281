-- A merge into main that ends keeps the store standing for the plain state.
use Rattle.std.proofs.Common.{ℕ, zero, suc, ◌+◌, ◌≡◌, inl, inr, cond, List, [], ◌∷◌, ◌++◌, length, map, Option, None, Some, refl, sym, ap, ◌∙◌, subst, arith, slice_get, slice_set}
use Rattle.std.proofs.lemmas.Bool.{cases_eq, ne_eqb}
use Rattle.std.proofs.lemmas.List.{length-map, map-append}
use Rattle.std.specs.Option.{option_map}
use Rattle.ut_value.specs.declared.entry.MergeKind.{MergeKind}
use Rattle.ut_value.specs.declared.entry.Entry.TheVariants as entries
use Rattle.ut_plain.specs.declared.stage.Placed.{Placed}
use Rattle.ut_plain.specs.declared.stage.TableStages.{TableStages}
use Rattle.ut_plain.specs.declared.stage.PendingMerge.{PendingMerge}
use Rattle.ut_plain.specs.declared.statement.Statement.TheVariants.{MergeEnd}
use Rattle.ut_plain.specs.declared.reply.Reply.TheVariants as replies
use Rattle.ut_plain.specs.State.{State}
use Rattle.ut_plain.specs.Journal.{journal_len, current, appended}
use Rattle.ut_plain.specs.Plain.{Plain}
use Rattle.ut_plain.specs.Merges as plain_merges
use Rattle.ut_plain.specs.Merges.{staying}
use Rattle.ut_plain.specs.Reached.{IsMerging, IsPending, AreMerges}
use Rattle.ut_plain.specs.Stages.{Stages, stages_at, with_stages}
use Rattle.ut_plain.specs.Step as plain
use Rattle.ut_plain.proofs.JournalLaws.{current-appended, journal_len-appended}
use Rattle.ut_plain.proofs.MainLemmas.{stages_at-here, stages_at-set}
use Rattle.ut_stamps.specs.declared.place.Place.{Place}
use Rattle.ut_exact.specs.Gone.{IsGone}
use Rattle.ut_exact.specs.Dropped.{AreDropped}
use Rattle.ut_exact.specs.Places.{StagedRow}
use Rattle.ut_exact.proofs.ExactLemmas.{IsExact-entry}
use Rattle.ut_exact.proofs.SessionLemmas.{AreOpen-entry}
use Rattle.ut_staged.specs.Staged.{Staged, placed_of, stages_of, switched}
use Rattle.ut_staged.specs.Choice.{AreFlags}
use Rattle.ut_staged.specs.Tables.{IsArranged}
use Rattle.ut_staged.proofs.ListLemmas.{none_some, some_same, get-set_other, map-set}
use Rattle.ut_staged.proofs.TableLemmas.{stages-here, stages-set, map-kept}
use Rattle.ut_staged.proofs.EndLemmas.{AreHeld-merged, AreDropped-rest, stages-switched}
use Rattle.ut_txn.specs.Seats.{number_at}
use Rattle.ut_store.specs.declared.response.Response.TheVariants.{Append}
use Rattle.ut_store.specs.Held.{Held}
use Rattle.ut_tables.specs.Standing.{AreMerging}
use Rattle.ut_store.specs.Stands.{StandsFor}
use Rattle.ut_store.specs.Answers.{Answers}
use Rattle.ut_store.specs.Allowed.{IsRefused}
use Rattle.ut_store.specs.Merging.{merge_ended}
use Rattle.ut_store.proofs.StandsLemmas.{answer_by}

-- ---- the merges of the tables

-- none is pending now
pub merging-ended : (m : PendingMerge) (merges : List (Option PendingMerge)) → AreMerging (Some m) merges → AreMerging None (slice_set merges m.table None)
merging-ended m merges h n merge is = elim (cases_eq n m.table) [
  | inl same ↦ put merges n merge None (ap (λ k. slice_get (slice_set merges k None) n) same ∙ is)
  | inr other ↦ h n merge (sym (get-set_other merges m.table n None other) ∙ is) ∙ ap (λ b. cond b (Some m) None) (ne_eqb n m.table other)
]
  where
    -- what stands where something was put
    put : (xs : List (Option PendingMerge)) (k : ℕ) (x y : Option PendingMerge) → slice_get (slice_set xs k y) k ≡ Some x → x ≡ y
    put [] k x y e = absurd (none_some x e)
    put (z ∷ xs) zero x y e = sym (some_same y x e)
    put (z ∷ xs) (suc k) x y e = put xs k x y e

-- ---- the merge that is pending

pub pending_is : (e : Held) (p : Plain) (m : PendingMerge) → StandsFor e p → e.counts.pending ≡ Some m → IsPending m p.stages (current p.journal).merges (journal_len p.journal)
pending_is e p m s is = subst (λ o. AreMerges o p.stages (current p.journal).merges (journal_len p.journal)) (sym s.counts.pending ∙ is) s.plain.merges

-- a flag stands beside each place
flags_are : (kind : MergeKind) (s : Staged) → IsMerging kind (stages_of s) → AreFlags s
flags_are kind s h = by s.closed refl h.closed
  where
    by : (o : Option (List StagedRow)) → s.closed ≡ o → option_map (map placed_of) o ≡ Some h.places → AreFlags s
    by None is e = absurd (none_some h.places e)
    by (Some rows) is e = record {
      closed = rows;
      is_closed = is;
      sizes = h.flags ∙ ap (λ (x : List Placed). map length (map (map placed_of) s.parts ++ x ∷ [])) (sym (some_same (map placed_of rows) h.places e))
          ∙ ap (map length) (sym (map-append (map placed_of) s.parts (rows ∷ []))) ∙ sizes (s.parts ++ rows ∷ []);
    }
      where
        sizes : (lists : List (List StagedRow)) → map length (map (map placed_of) lists) ≡ map length lists
        sizes [] = refl
        sizes (x ∷ lists) = λ i. length-map x placed_of i ∷ sizes lists i

-- no table has a flag behind it
rests : (p : Plain) (m : PendingMerge) {merges entries : ℕ} → IsPending m p.stages merges entries → (n : ℕ) → (stages_at (with_stages (plain_merges.switched m.kind) m.table p.stages) n).keep ≡ []
rests p m pending n = elim (cases_eq n m.table) [
  | inl same ↦ ap (λ k. (stages_at (with_stages (plain_merges.switched m.kind) m.table p.stages) k).keep) same
      ∙ ap (λ (t : TableStages). t.keep) (stages_at-here p.stages m.table (plain_merges.switched m.kind (stages_at p.stages m.table)) pending.table)
  | inr other ↦ stages_at-set (λ t. t.keep ≡ []) p.stages m.table n (plain_merges.switched m.kind (stages_at p.stages m.table)) (λ same. absurd (other same)) (pending.others n other).keep
]

-- ---- the merge ends

pub merge_ends : (e : Held) (session : ℕ) (m : PendingMerge) (s : Staged) (olds : List Place) → IsRefused e session MergeEnd None → e.counts.pending ≡ Some m → slice_get e.rows.staged m.table ≡ Some s → IsArranged m.kind s olds
    → Answers e session MergeEnd (Append (replies.Merge m.number)) (merge_ended e m s olds)
merge_ends e session m s olds h is at arranged = record {
  each = λ p st.
      let entry = entries.Ended m.number in
      let now = current-appended p.journal entry in
      let stay = staying m.kind (length s.parts) in
      let new = switched stay olds s in
      let same : p.pending ≡ Some m = sym st.counts.pending ∙ is in
      let pending = pending_is e p m st is in
      let here : stages_at p.stages m.table ≡ stages_of s = ap (λ x. stages_at x m.table) st.rows.stages ∙ stages-here e.rows.staged m.table s at in
      let flags = flags_are m.kind s (subst (λ (t : TableStages). IsMerging m.kind t) here pending.merging) in
      let dropped : AreDropped (map stages_of e.rows.staged) (IsGone e.rows.fates p.sessions) st.rows.held = subst (λ (x : Stages). AreDropped x (IsGone e.rows.fates p.sessions) st.rows.held) st.rows.stages st.rows.dropped in
      answer_by e (merge_ended e m s olds) session MergeEnd (Append (replies.Merge m.number)) p (plain.merge_ended p (Some m)) refl (h.is p st) st
      (ap (plain.merge_ended p) same) refl
      (record {
        tables = st.counts.tables ∙ sym (ap (λ (x : State). x.tables) now);
        commits = st.counts.commits ∙ sym (ap (λ (x : State). x.commits) now);
        merges = st.counts.merges ∙ sym (ap (λ (x : State). x.merges) now);
        entries = ap (λ k. k + 1) st.counts.entries ∙ sym (journal_len-appended p.journal entry);
        next_id = st.counts.next_id;
        rows_limit = st.counts.rows_limit;
        pending = refl;
      })
      st.seats
      (record {
        held = st.rows.held;
        places = AreHeld-merged (IsGone e.rows.fates p.sessions) st.rows.held e.rows.staged m.table stay s olds at flags st.rows.places dropped arranged.choice;
        dropped = AreDropped-rest (with_stages (plain_merges.switched m.kind) m.table p.stages) (IsGone e.rows.fates p.sessions) st.rows.held (rests p m pending);
        free = st.rows.free;
        exact = IsExact-entry e.rows.fates st.rows.held p.journal p.opening entry st.plain.opened.1 refl (λ id. refl) st.rows.exact;
        transactions = AreOpen-entry e.rows.fates st.rows.held p.sessions (number_at e.seats) p.journal (appended p.journal entry) p.opening (omega (arith, journal_len-appended p.journal entry)) st.rows.transactions;
        dead = st.rows.dead;
        started = st.rows.started;
        stages = (λ i. slice_set (st.rows.stages i) m.table (plain_merges.switched m.kind (here i)))
            ∙ ap (slice_set (map stages_of e.rows.staged) m.table) (sym (stages-switched m.kind s olds arranged)) ∙ sym (stages-set e.rows.staged m.table new);
        columns = map-kept (λ (x : Staged). x.columns) e.rows.staged m.table s new at refl ∙ st.rows.columns;
        merging = subst (AreMerging None) (sym (map-set (λ (x : Staged). x.merge) e.rows.staged m.table new))
            (merging-ended m (map (λ (x : Staged). x.merge) e.rows.staged) (subst (λ (o : Option PendingMerge). AreMerging o (map (λ (x : Staged). x.merge) e.rows.staged)) is st.rows.merging));
      })
      (entry, refl, refl);
}
