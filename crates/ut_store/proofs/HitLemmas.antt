-- What a scan of the store finds is what the plain store finds.
use Rattle.std.proofs.Common.{ℕ, ◌<◌, ◌≤◌, ◌≡◌, Bool, true, false, ◌||◌, cond, List, [], ◌∷◌, filter, None, Some, refl, sym, ap, ◌∙◌, subst, arith, nat_eq, slice_get, unwrap_or, true≢false}
use Rattle.std.specs.Option.{option_map}
use Rattle.std.specs.List as lists
use Rattle.std.specs.Ordering.{nat_cmp}
use Rattle.std.specs.FinMap.{find}
use Rattle.ut_value.specs.declared.value.Value.{Value}
use Rattle.ut_plain.specs.declared.table.Stored.{Stored}
use Rattle.ut_plain.specs.declared.statement.Pred.{Pred}
use Rattle.ut_plain.specs.Rows.{table_rows}
use Rattle.ut_plain.specs.Plain.{Plain, open_at}
use Rattle.ut_plain.specs.Condition.{meets}
use Rattle.ut_plain.specs.View.{view}
use Rattle.ut_plain.specs.Condition.{found}
use Rattle.ut_plain.specs.Tables.{place_in, columns_in}
use Rattle.ut_plain.specs.Refusals.{first_taken}
use Rattle.ut_stamps.specs.declared.fates.Fate.TheVariants.{Running}
use Rattle.ut_stamps.specs.declared.visibility.Stamp.{Stamp}
use Rattle.ut_stamps.specs.Stamps.{fate_at, is_own, is_committed_by, is_taken, sees}
use Rattle.ut_stamps.specs.declared.place.Place.{Place}
use Rattle.ut_exact.specs.Exact.{ended_by, may_take}
use Rattle.ut_exact.specs.Places.{StagedRow, dead_number, is_dead, stamped_in}
use Rattle.ut_exact.specs.Scan.{stored_in}
use Rattle.ut_exact.proofs.FateLemmas.{other_number}
use Rattle.ut_exact.proofs.ScanLemmas.{scan-is, seen_is_live}
use Rattle.ut_exact.proofs.SeenLemmas.{taken-stamp}
use Rattle.ut_staged.specs.Staged.{Staged}
use Rattle.ut_txn.specs.declared.opened.Opened.{Opened}
use Rattle.ut_txn.specs.Seats.{number_at}
use Rattle.ut_tables.proofs.FoundLemmas.{AllIn, all_in}
use Rattle.ut_store.specs.Held.{Held}
use Rattle.ut_store.specs.Stands.{StandsFor, opened_snapshot}
use Rattle.ut_store.specs.Reads.{looks_at, own_at, counts_for}
use Rattle.ut_change.specs.Conflicts.{stamp_in}
use Rattle.ut_store.specs.Hits.{Hits, first_taken_of, plain_rows}
use Rattle.ut_exact.specs.Gone.{IsGone}
use Rattle.ut_exact.proofs.GoneLemmas.{gone_unseen}
use Rattle.ut_staged.specs.Staging.{AreFound}
use Rattle.ut_store.proofs.IndexLemmas.{some_inside}
use Rattle.ut_store.proofs.ReadLemmas.{reads, SameSession, Closed, Open, same_session}
use Rattle.ut_staged.specs.Tables.{place_at}
use Rattle.ut_store.proofs.StandsLemmas.{not_dead}
use Rattle.ut_staged.proofs.TableLemmas.{here}

-- the places that are nobody's are there for no session
pub dead_never : (e : Held) (p : Plain) (session : ℕ) → StandsFor e p → counts_for e session dead_number ≡ false
dead_never e p session s = by (same_session e p session s.seats)
  where
    committed : (k : ℕ) → is_committed_by (fate_at e.rows.fates dead_number) k ≡ false
    committed k = ap (λ f. is_committed_by f k) s.rows.dead

    by : SameSession e p session (open_at p.sessions session) → counts_for e session dead_number ≡ false
    by (Closed own seat) = ap (λ x. is_own (option_map (λ (o : Opened). o.number) x) dead_number || is_committed_by (fate_at e.rows.fates dead_number) (looks_at e session)) seat ∙ committed (looks_at e session)
    by (Open t o own seat same) =
        let number : number_at e.seats session ≡ o.number = ap (λ x. unwrap_or (option_map (λ (y : Opened). y.number) x) 0) seat in
        let runs : fate_at e.rows.fates o.number ≡ Running = ap (fate_at e.rows.fates) (sym number) ∙ (s.rows.transactions.own session t own).running in
        let apart : nat_eq o.number dead_number ≡ false = other_number o.number dead_number (λ at. not_dead e.rows.fates o.number runs s.rows.dead (sym at)) in
        ap (λ x. is_own (option_map (λ (y : Opened). y.number) x) dead_number || is_committed_by (fate_at e.rows.fates dead_number) (looks_at e session)) seat
        ∙ (λ i. apart i || committed (looks_at e session) i)

-- and so are rows that are gone
pub gone_never : (e : Held) (p : Plain) (session : ℕ) → StandsFor e p → (stamp : Stamp) → IsGone e.rows.fates p.sessions stamp → sees e.rows.fates (looks_at e session) (own_at e session) stamp ≡ false
gone_never e p session s stamp g = by (same_session e p session s.seats)
  where
    by : SameSession e p session (open_at p.sessions session) → sees e.rows.fates (looks_at e session) (own_at e session) stamp ≡ false
    by (Closed own seat) =
        gone_unseen e.rows.fates p.sessions stamp (looks_at e session) (own_at e session) (λ u h. absurd (nobody u (sym (ap (λ x. option_map (λ (o : Opened). o.number) x) seat) ∙ h)))
        (λ b c t is behind le. let within = s.rows.exact.within t c is in omega (arith, within, s.counts.entries, ap (λ x. unwrap_or (opened_snapshot x) e.counts.entries) seat)) g
      where
        nobody : (u : ℕ) → None ≡ Some u → ⊥
        nobody u h = cc
    by (Open t o own seat same) =
        let number : number_at e.seats session ≡ o.number = ap (λ x. unwrap_or (option_map (λ (y : Opened). y.number) x) 0) seat in
        let looks : looks_at e session ≡ t.snapshot = ap (λ x. unwrap_or (opened_snapshot x) e.counts.entries) seat ∙ same in
        gone_unseen e.rows.fates p.sessions stamp (looks_at e session) (own_at e session)
        (λ u h. ap (fate_at e.rows.fates) (some_inside u o.number (sym h ∙ ap (λ x. option_map (λ (y : Opened). y.number) x) seat) ∙ sym number) ∙ (s.rows.transactions.own session t own).running)
        (λ b c u is behind le. subst (λ k. c ≤ k) (sym looks) (behind session t own (subst (λ k. b ≤ k) looks le))) g

-- the rows that are found are those of the plain store
pub found-is : (e : Held) (p : Plain) (session n : ℕ) (name : List ℕ) (preds : List Pred) (hits : List (ℕ × Place)) → session < 17 → StandsFor e p → place_in (view p session).tables name ≡ n
    → Hits e session n (meets (columns_in (view p session).tables name) preds) hits → found (view p session).tables (view p session).rows name preds ≡ plain_rows e n hits
found-is e p session n name preds hits small s place h =
    let r = reads e p session small s in
    let rows = (view p session).rows in
    let test = meets (columns_in (view p session).tables name) preds in
    ap (λ k. filter (λ (x : ℕ × Stored). test x.1.values) (table_rows k rows)) place
    ∙ sym (scan-is (place_at e.rows.staged) s.rows.held n e.rows.fates (looks_at e session) (own_at e session) test hits rows (IsGone e.rows.fates p.sessions) (gone_never e p session s) s.rows.places (dead_never e p session s) r.sorted r.shown h.scan)

-- ---- the first of them that is taken

module _ (e : Held) (p : Plain) (session n : ℕ) (test : List Value → Bool) (hits : List (ℕ × Place)) (small : session < 17) (s : StandsFor e p) (h : Hits e session n test hits) where
  -- a place that was found holds the row of its id
  pub holds : (id : ℕ) (q : Place) → find nat_cmp id hits ≡ Some q → (row : StagedRow) × (place_at e.rows.staged n q ≡ Some row) × (row.id ≡ id) × (is_dead row.stamp ≡ false) × (s.rows.held id ≡ Some (stamped_in n row))
  holds id q is =
      let f = h.scan.sound id q is in
      let lives = seen_is_live e.rows.fates (looks_at e session) (own_at e session) (dead_never e p session s) f.0.stamp f.3 in
      (f.0, f.1, f.2, lives, ap s.rows.held (sym f.2) ∙ s.rows.places.each n q f.0 f.1 lives)

  -- whether it is taken stands in its stamp
  taken_one : (id : ℕ) (q : Place) → find nat_cmp id hits ≡ Some q → (view p session).taken id ≡ is_taken e.rows.fates (looks_at e session) (own_at e session) (stamp_in (place_at e.rows.staged n q))
  taken_one id q is =
      let f = holds id q is in
      (reads e p session small s).taken id ∙ ap (ended_by (may_take e.rows.fates (looks_at e session) (own_at e session))) f.4
      ∙ sym (ap (λ o. is_taken e.rows.fates (looks_at e session) (own_at e session) (stamp_in o)) f.1 ∙ taken-stamp e.rows.fates (looks_at e session) (own_at e session) (stamped_in n f.0))

pub first_taken-is : (e : Held) (p : Plain) (session n : ℕ) (test : List Value → Bool) (hits : List (ℕ × Place)) → session < 17 → StandsFor e p → Hits e session n test hits
    → first_taken (view p session).taken (plain_rows e n hits) ≡ first_taken_of e session n hits
first_taken-is e p session n test hits small s h = by hits (all_in hits h.scan.sorted)
  where
    taken : ℕ → Bool
    taken = (view p session).taken

    marked : ℕ × Place → Bool
    marked x = is_taken e.rows.fates (looks_at e session) (own_at e session) (stamp_in (place_at e.rows.staged n x.1))

    by : (some : List (ℕ × Place)) → AllIn hits some
        → option_map (λ (x : ℕ × Stored). x.0) (lists.find (λ (x : ℕ × Stored). (view p session).taken x.0) (plain_rows e n some))
        ≡ option_map (λ (x : ℕ × Place). x.0) (lists.find (λ (x : ℕ × Place). is_taken e.rows.fates (looks_at e session) (own_at e session) (stamp_in (place_at e.rows.staged n x.1))) some)
    by [] a = refl
    by (x ∷ xs) a = one (is_taken e.rows.fates (looks_at e session) (own_at e session) (stamp_in (place_at e.rows.staged n x.1))) ((view p session).taken x.0) (taken_one e p session n test hits small s h x.0 x.1 a.0) refl (by xs a.1)
      where
        one : (b c : Bool) → c ≡ b → is_taken e.rows.fates (looks_at e session) (own_at e session) (stamp_in (place_at e.rows.staged n x.1)) ≡ b
            → option_map (λ (y : ℕ × Stored). y.0) (lists.find (λ (y : ℕ × Stored). (view p session).taken y.0) (plain_rows e n xs))
            ≡ option_map (λ (y : ℕ × Place). y.0) (lists.find (λ (y : ℕ × Place). is_taken e.rows.fates (looks_at e session) (own_at e session) (stamp_in (place_at e.rows.staged n y.1))) xs)
            → option_map (λ (y : ℕ × Stored). y.0) (cond c (Some (x.0, stored_in n (place_at e.rows.staged n x.1))) (lists.find (λ (y : ℕ × Stored). (view p session).taken y.0) (plain_rows e n xs)))
            ≡ option_map (λ (y : ℕ × Place). y.0) (cond b (Some x) (lists.find (λ (y : ℕ × Place). is_taken e.rows.fates (looks_at e session) (own_at e session) (stamp_in (place_at e.rows.staged n y.1))) xs))
        one true true same is rest = refl
        one true false same is rest = absurd (true≢false (sym same))
        one false true same is rest = absurd (true≢false same)
        one false false same is rest = rest

-- ---- the places hold what was found

pub AreFound-hits : (e : Held) (p : Plain) (session n : ℕ) (test : List Value → Bool) (hits : List (ℕ × Place)) (st : Staged) → session < 17 → StandsFor e p → slice_get e.rows.staged n ≡ Some st → Hits e session n test hits → AreFound st hits
AreFound-hits e p session n test hits st small s is h = by hits (all_in hits h.scan.sorted)
  where
    by : (some : List (ℕ × Place)) → AllIn hits some → AreFound st some
    by [] a = tt
    by (x ∷ xs) a = let f = holds e p session n test hits small s h x.0 x.1 a.0 in (f.0, sym (here e.rows.staged n st x.1 is) ∙ f.1, f.2, f.3, by xs a.1)
