-- The operations that a delete, an update and new rows make fit the store.
use Rattle.std.proofs.Common.{ℕ, suc, ◌+◌, ◌<◌, ◌≡◌, List, [], ◌∷◌, ◌++◌, length, map, None, Some, refl, ap, ◌∙◌, subst, unwrap_or}
use Rattle.std.specs.Option.{option_map}
use Rattle.ut_value.specs.declared.value.Value.{Value}
use Rattle.ut_value.specs.declared.entry.Op.{Op}
use Rattle.ut_value.specs.declared.entry.Op.TheVariants as ops
use Rattle.ut_plain.specs.declared.statement.Pred.{Pred}
use Rattle.ut_plain.specs.Plain.{Plain}
use Rattle.ut_plain.specs.Condition.{meets}
use Rattle.ut_plain.specs.View.{view}
use Rattle.ut_plain.specs.Condition.{found}
use Rattle.ut_plain.specs.Tables.{place_in, columns_in}
use Rattle.ut_plain.specs.Made.{deletes_all, updates}
use Rattle.ut_plain.specs.Refusals.{first_taken}
use Rattle.ut_stamps.specs.declared.fates.Fate.TheVariants.{Running}
use Rattle.ut_stamps.specs.declared.place.Place.{Place}
use Rattle.ut_exact.specs.Scan.{stored_in}
use Rattle.ut_exact.specs.Work.{Fits}
use Rattle.ut_exact.proofs.FreeLemmas.{AllFree, found_free, found_sorted, free_start, free_fits, update_fits}
use Rattle.ut_txn.specs.declared.opened.Opened.{Opened}
use Rattle.ut_txn.specs.Seats.{opened_at}
use Rattle.ut_store.specs.Held.{Held}
use Rattle.ut_store.specs.Stands.{StandsFor}
use Rattle.ut_store.specs.Reads.{looks_at, own_at}
use Rattle.ut_store.specs.Hits.{Hits, plain_rows, first_taken_of}
use Rattle.ut_store.proofs.ReadLemmas.{reads}
use Rattle.ut_store.proofs.HitLemmas.{found-is, first_taken-is}
use Rattle.ut_staged.proofs.StagingLemmas.{updates_of}
use Rattle.ut_staged.specs.Tables.{place_at}

-- ---- the operations, from the places

pub deletes-are : (e : Held) (n : ℕ) (hits : List (ℕ × Place)) → deletes_all n (plain_rows e n hits) ≡ map (λ (x : ℕ × Place). ops.Delete n x.0) hits
deletes-are e n [] = refl
deletes-are e n (x ∷ xs) = ap (λ os. ops.Delete n x.0 ∷ os) (deletes-are e n xs)

-- the values of the rows in places
abbrev pub values_at : Held → ℕ → List (ℕ × Place) → List (List Value)
values_at e n hits = map (λ (x : ℕ × Place). (stored_in n (place_at e.rows.staged n x.1)).values) hits

pub updates-are : (e : Held) (n next : ℕ) (change : List Value → List Value) (hits : List (ℕ × Place)) → updates n next change (plain_rows e n hits) ≡ updates_of n next hits (map change (values_at e n hits))
updates-are e n next change [] = refl
updates-are e n next change (x ∷ xs) = ap (λ os. ops.Delete n x.0 ∷ ops.Insert n next (change (stored_in n (place_at e.rows.staged n x.1)).values) ∷ os) (updates-are e n (next + 1) change xs)

pub length-rows : (e : Held) (n : ℕ) (hits : List (ℕ × Place)) → length (plain_rows e n hits) ≡ length hits
length-rows e n [] = refl
length-rows e n (x ∷ xs) = ap suc (length-rows e n xs)

-- ---- what is found and not taken is free

-- the rows that a statement finds, none of them taken
pub record FindsFree (e : Held) (session n : ℕ) (name : List ℕ) (preds : List Pred) (hits : List (ℕ × Place)) : Type 0 where
  pub place : (p : Plain) → StandsFor e p → place_in (view p session).tables name ≡ n
  pub hits_are : (p : Plain) → StandsFor e p → Hits e session n (meets (columns_in (view p session).tables name) preds) hits
  pub none_taken : first_taken_of e session n hits ≡ None

pub found_rows : (e : Held) (p : Plain) (session n : ℕ) (name : List ℕ) (preds : List Pred) (hits : List (ℕ × Place)) → session < 17 → StandsFor e p → FindsFree e session n name preds hits → found (view p session).tables (view p session).rows name preds ≡ plain_rows e n hits
found_rows e p session n name preds hits small s f = found-is e p session n name preds hits small s (f.place p s) (f.hits_are p s)

all_free : (e : Held) (p : Plain) (session n : ℕ) (name : List ℕ) (preds : List Pred) (hits : List (ℕ × Place)) → session < 17 → (s : StandsFor e p) → FindsFree e session n name preds hits
    → AllFree e.rows.fates (looks_at e session) (own_at e session) s.rows.held (found (view p session).tables (view p session).rows name preds)
all_free e p session n name preds hits small s f =
    let r = reads e p session small s in
    found_free e.rows.fates (looks_at e session) (own_at e session) s.rows.held (view p session) name preds r.sorted r.shown r.taken
    (ap (first_taken (view p session).taken) (found_rows e p session n name preds hits small s f)
    ∙ first_taken-is e p session n (meets (columns_in (view p session).tables name) preds) hits small s (f.hits_are p s) ∙ f.none_taken)

-- in a transaction

inside_free : (e : Held) (p : Plain) (session n : ℕ) (name : List ℕ) (preds : List Pred) (hits : List (ℕ × Place)) (o : Opened) → session < 17 → opened_at e.seats session ≡ Some o → (s : StandsFor e p) → FindsFree e session n name preds hits
    → AllFree e.rows.fates o.snapshot (Some o.number) s.rows.held (found (view p session).tables (view p session).rows name preds)
inside_free e p session n name preds hits o small is s f =
    let look : looks_at e session ≡ o.snapshot = ap (λ x. unwrap_or (option_map (λ (y : Opened). y.snapshot) x) e.counts.entries) is in
    let own : own_at e session ≡ Some o.number = ap (λ x. option_map (λ (y : Opened). y.number) x) is in
    subst (λ k. AllFree e.rows.fates k (Some o.number) s.rows.held (found (view p session).tables (view p session).rows name preds)) look
    (subst (λ t. AllFree e.rows.fates (looks_at e session) t s.rows.held (found (view p session).tables (view p session).rows name preds)) own (all_free e p session n name preds hits small s f))

pub deletes_fit : (e : Held) (p : Plain) (session n : ℕ) (name : List ℕ) (preds : List Pred) (hits : List (ℕ × Place)) (o : Opened) → session < 17 → opened_at e.seats session ≡ Some o → (s : StandsFor e p) → FindsFree e session n name preds hits
    → Fits e.rows.fates o.snapshot o.number e.counts.next_id s.rows.held (map (λ (x : ℕ × Place). ops.Delete n x.0) hits)
deletes_fit e p session n name preds hits o small is s f =
    subst (λ (os : List Op). Fits e.rows.fates o.snapshot o.number e.counts.next_id s.rows.held os) (ap (deletes_all n) (found_rows e p session n name preds hits small s f) ∙ deletes-are e n hits)
    (free_fits e.rows.fates o.snapshot o.number e.counts.next_id n s.rows.held (found (view p session).tables (view p session).rows name preds) (found_sorted (view p session) name preds (reads e p session small s).sorted) (inside_free e p session n name preds hits o small is s f))

pub updates_fit : (e : Held) (p : Plain) (session n : ℕ) (name : List ℕ) (preds : List Pred) (hits : List (ℕ × Place)) (o : Opened) (change : List Value → List Value) → session < 17 → opened_at e.seats session ≡ Some o → (s : StandsFor e p) → FindsFree e session n name preds hits
    → Fits e.rows.fates o.snapshot o.number e.counts.next_id s.rows.held (updates_of n e.counts.next_id hits (map change (values_at e n hits)))
updates_fit e p session n name preds hits o change small is s f =
    subst (λ (os : List Op). Fits e.rows.fates o.snapshot o.number e.counts.next_id s.rows.held os) (ap (updates n e.counts.next_id change) (found_rows e p session n name preds hits small s f) ∙ updates-are e n e.counts.next_id change hits)
    (update_fits e.rows.fates o.snapshot o.number e.counts.next_id n change s.rows.held (found (view p session).tables (view p session).rows name preds) (found_sorted (view p session) name preds (reads e p session small s).sorted) s.rows.free (inside_free e p session n name preds hits o small is s f))

-- alone

alone_free : (e : Held) (p : Plain) (session n : ℕ) (name : List ℕ) (preds : List Pred) (hits : List (ℕ × Place)) → session < 17 → opened_at e.seats session ≡ None → (s : StandsFor e p) → FindsFree e session n name preds hits
    → AllFree (e.rows.fates ++ Running ∷ []) e.counts.entries (Some (length e.rows.fates)) s.rows.held (found (view p session).tables (view p session).rows name preds)
alone_free e p session n name preds hits small is s f =
    let look : looks_at e session ≡ e.counts.entries = ap (λ x. unwrap_or (option_map (λ (y : Opened). y.snapshot) x) e.counts.entries) is in
    let own : own_at e session ≡ None = ap (λ x. option_map (λ (y : Opened). y.number) x) is in
    free_start e.rows.fates e.counts.entries s.rows.held (found (view p session).tables (view p session).rows name preds) (λ id row t. s.rows.exact.ended id row t)
    (subst (λ k. AllFree e.rows.fates k None s.rows.held (found (view p session).tables (view p session).rows name preds)) look
    (subst (λ t. AllFree e.rows.fates (looks_at e session) t s.rows.held (found (view p session).tables (view p session).rows name preds)) own (all_free e p session n name preds hits small s f)))

pub deletes_fit_alone : (e : Held) (p : Plain) (session n : ℕ) (name : List ℕ) (preds : List Pred) (hits : List (ℕ × Place)) → session < 17 → opened_at e.seats session ≡ None → (s : StandsFor e p) → FindsFree e session n name preds hits
    → Fits (e.rows.fates ++ Running ∷ []) e.counts.entries (length e.rows.fates) e.counts.next_id s.rows.held (map (λ (x : ℕ × Place). ops.Delete n x.0) hits)
deletes_fit_alone e p session n name preds hits small is s f =
    subst (λ (os : List Op). Fits (e.rows.fates ++ Running ∷ []) e.counts.entries (length e.rows.fates) e.counts.next_id s.rows.held os) (ap (deletes_all n) (found_rows e p session n name preds hits small s f) ∙ deletes-are e n hits)
    (free_fits (e.rows.fates ++ Running ∷ []) e.counts.entries (length e.rows.fates) e.counts.next_id n s.rows.held (found (view p session).tables (view p session).rows name preds) (found_sorted (view p session) name preds (reads e p session small s).sorted) (alone_free e p session n name preds hits small is s f))

pub updates_fit_alone : (e : Held) (p : Plain) (session n : ℕ) (name : List ℕ) (preds : List Pred) (hits : List (ℕ × Place)) (change : List Value → List Value) → session < 17 → opened_at e.seats session ≡ None → (s : StandsFor e p) → FindsFree e session n name preds hits
    → Fits (e.rows.fates ++ Running ∷ []) e.counts.entries (length e.rows.fates) e.counts.next_id s.rows.held (updates_of n e.counts.next_id hits (map change (values_at e n hits)))
updates_fit_alone e p session n name preds hits change small is s f =
    subst (λ (os : List Op). Fits (e.rows.fates ++ Running ∷ []) e.counts.entries (length e.rows.fates) e.counts.next_id s.rows.held os) (ap (updates n e.counts.next_id change) (found_rows e p session n name preds hits small s f) ∙ updates-are e n e.counts.next_id change hits)
    (update_fits (e.rows.fates ++ Running ∷ []) e.counts.entries (length e.rows.fates) e.counts.next_id n change s.rows.held (found (view p session).tables (view p session).rows name preds) (found_sorted (view p session) name preds (reads e p session small s).sorted) s.rows.free (alone_free e p session n name preds hits small is s f))
