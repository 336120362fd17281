-- The operations of an update.
use Rattle.std.proofs.Common.{ℕ, ◌+◌, ◌<◌, ◌≤◌, ◌≡◌, Bool, true, false, ◌&&◌, ◌||◌, List, [], ◌∷◌, length, map, Option, Some, refl, sym, ap, ◌∙◌, subst, arith, IsTrue, nat_eq, nat_le, leb-true, eqb-true, slice_get, slice_set, unwrap_or}
use Rattle.std.specs.List.{list_all}
use Rattle.std.proofs.lemmas.List.Sums.{sum_by-cons}
use Rattle.ut_value.specs.declared.value.Value.{Value}
use Rattle.ut_value.specs.declared.entry.Op.{Op}
use Rattle.ut_value.specs.declared.entry.Op.TheVariants as ops
use Rattle.ut_value.specs.KeyBytes.{is_value}
use Rattle.ut_value.specs.Text.{is_name}
use Rattle.ut_value.specs.Spelling.{is_count, are_values, has_column}
use Rattle.ut_plain.specs.declared.statement.Statement.{Statement}
use Rattle.ut_plain.specs.declared.statement.Statement.TheVariants as statements
use Rattle.ut_plain.specs.declared.statement.Pred.{Pred}
use Rattle.ut_plain.specs.declared.reply.Refusal.{Refusal}
use Rattle.ut_plain.specs.declared.reply.Refusal.TheVariants as refusals
use Rattle.ut_plain.specs.Tables.{fits_columns, fits_table, columns_at, place_in, columns_in}
use Rattle.ut_plain.specs.Names.{preds_known}
use Rattle.ut_plain.specs.Kinds.{kind_in, has_kind, preds_fit}
use Rattle.ut_plain.specs.Condition.{found}
use Rattle.ut_plain.specs.Rows.{op_inserts, inserts_of}
use Rattle.ut_plain.specs.Made.{updates, changed_value}
use Rattle.ut_plain.specs.Refusals.{first_taken, unless, or_else}
use Rattle.ut_plain.specs.Spelled.{are_preds}
use Rattle.ut_plain.specs.Plain.{Plain}
use Rattle.ut_plain.specs.View.{view}
use Rattle.ut_plain.proofs.BoolLemmas.{and_left, and_right}
use Rattle.ut_plain.proofs.ListLemmas.{list_all_set}
use Rattle.ut_plain.proofs.TableLemmas.{there_known, fits_columns-set, are_values-fit}
use Rattle.ut_plain.proofs.MadeLemmas.{suits_table}
use Rattle.ut_stamps.specs.declared.place.Place.{Place}
use Rattle.ut_exact.specs.Scan.{stored_in}
use Rattle.ut_names.specs.declared.resolved.Target.{Target}
use Rattle.ut_staged.specs.Staged.{Staged}
use Rattle.ut_plain.specs.declared.reply.Reply.TheVariants as replies
use Rattle.ut_change.proofs.MadeLemmas.{AllFit, updates-fit, updates-rule, ends-updates}
use Rattle.ut_store.specs.declared.response.Response.TheVariants.{Answered}
use Rattle.ut_store.specs.Answers.{Answers}
use Rattle.ut_store.specs.Held.{Held}
use Rattle.ut_store.specs.Stands.{StandsFor}
use Rattle.ut_store.specs.Hits.{plain_rows}
use Rattle.ut_staged.specs.Staging.{Staging, written, AreFound}
use Rattle.ut_change.specs.Writes.{op_fits}
use Rattle.ut_change.specs.Made.{updated_ops}
use Rattle.ut_store.specs.Changes.{has_ids_for, late_refusal, Looked, MayChange, AreReady, IsUpdate, IsWork}
use Rattle.ut_store.proofs.IndexLemmas.{some_inside}
use Rattle.ut_store.proofs.ReadLemmas.{reads}
use Rattle.ut_staged.specs.Tables.{place_at}
use Rattle.ut_store.proofs.HitLemmas.{found-is, first_taken-is}
use Rattle.ut_store.proofs.MadeLemmas.{values_at, updates-are, length-rows, updates_fit, updates_fit_alone}
use Rattle.ut_staged.proofs.StagingLemmas.{updates_of, staging-updates, written-updates}
use Rattle.ut_store.proofs.KindLemmas.{early_tests, TableAt, table_at, at_n, next_small}
use Rattle.ut_store.proofs.FinishLemmas.{answers_refused}
use Rattle.ut_store.proofs.SearchLemmas.{place_view, hits_view, finds_free, FoundAt, found_places}
use Rattle.ut_store.proofs.SuitLemmas.{AllSuit, all_suit}
use Rattle.ut_staged.proofs.TableLemmas.{here}

-- ---- what is made

abbrev pub update_of : Held → ℕ → (List Value → List Value) → ℕ → List (ℕ × Place) → List Op
update_of e n change id hits = updates_of n id hits (map change (values_at e n hits))

pub inserts-updates : (e : Held) (n id : ℕ) (change : List Value → List Value) (hits : List (ℕ × Place)) → inserts_of (update_of e n change id hits) ≡ length hits
inserts-updates e n id change [] = refl
inserts-updates e n id change (x ∷ xs) =
    let rest = inserts-updates e n (id + 1) change xs in
    let vs = change (stored_in n (place_at e.rows.staged n x.1)).values in
    let one = sum_by-cons op_inserts (ops.Delete n x.0) (ops.Insert n id vs ∷ update_of e n change (id + 1) xs) in
    let two = sum_by-cons op_inserts (ops.Insert n id vs) (update_of e n change (id + 1) xs) in omega (arith, rest, one, two)

nothing_of : (e : Held) (n id : ℕ) (change : List Value → List Value) (hits : List (ℕ × Place)) → update_of e n change id hits ≡ [] → length hits ≡ 0
nothing_of e n id change [] h = refl
nothing_of e n id change (x ∷ xs) h = cc

something_of : (e : Held) (n id : ℕ) (change : List Value → List Value) (hits : List (ℕ × Place)) (op : Op) (rest : List Op) → update_of e n change id hits ≡ op ∷ rest → 0 < length hits
something_of e n id change [] op rest h = cc
something_of e n id change (x ∷ xs) op rest h = omega arith

pub updated-are : (e : Held) (n id column : ℕ) (value : Value) (s : Staged) (hits : List (ℕ × Place)) → slice_get e.rows.staged n ≡ Some s → updated_ops s n id column value hits ≡ update_of e n (λ row. slice_set row column value) id hits
updated-are e n id column value s [] at = refl
updated-are e n id column value s (x ∷ xs) at =
    λ i. ops.Delete n x.0 ∷ ops.Insert n id (slice_set (stored_in n (sym (here e.rows.staged n s x.1 at) i)).values column value) ∷ updated-are e n (id + 1) column value s xs at i

-- ---- the ids

pub ids_from : (e : Held) (p : Plain) (rows : ℕ) → StandsFor e p → has_ids_for e rows ≡ true → e.counts.next_id + rows ≤ 2147483649
ids_from e p rows s h = by (nat_eq rows 0) refl h
  where
    by : (b : Bool) → nat_eq rows 0 ≡ b → (b || nat_le (e.counts.next_id + rows) (e.counts.rows_limit + 1)) ≡ true → e.counts.next_id + rows ≤ 2147483649
    by true is k = let none = eqb-true rows 0 is in let next = next_small e p s in omega arith
    by false is k = let le = leb-true (e.counts.next_id + rows) (e.counts.rows_limit + 1) k in let limit = s.plain.limit in let same = s.counts.rows_limit in omega (arith, le, limit, same)

full_by : (a b c : Bool) (rest : Option Refusal) → a ≡ false → or_else (unless (a && b && c) refusals.Full) rest ≡ Some refusals.Full
full_by true b c rest h = cc
full_by false b c rest h = refl

pub no_ids : (e : Held) (session n : ℕ) (hits : List (ℕ × Place)) (os : List Op) → has_ids_for e (inserts_of os) ≡ false → late_refusal e session n hits os ≡ Some refusals.Full
no_ids e session n hits [] h = cc
no_ids e session n hits (op ∷ os) h = full_by (has_ids_for e (inserts_of (op ∷ os))) _ _ _ h

-- ---- the statement

module _ (e : Held) (session n : ℕ) (name column : List ℕ) (value : Value) (preds : List Pred) (m : MayChange e session (statements.Update name column value preds)) (is : n ≡ place_in e.rows.tables name) where
  kinds_of : (has_kind value (kind_in (columns_in e.rows.tables name) column) && preds_fit (columns_in e.rows.tables name) preds) ≡ true
  kinds_of = (early_tests e session (statements.Update name column value preds) m.early).1

  update_table : TableAt e n (columns_in e.rows.tables name)
  update_table = table_at e m.stands.plain name n m.stands.stands (there_known e.rows.tables (λ cs. has_column cs column && preds_known preds cs) name (early_tests e session (statements.Update name column value preds) m.early).0) is

  module _ (hits : List (ℕ × Place)) (l : Looked e session n preds hits) where
    the_found : FoundAt e n hits
    the_found = found_places e m.stands.plain session n preds hits m.seat m.stands.stands l

    columns_at_n : columns_at e.rows.tables n ≡ Some (columns_in e.rows.tables name)
    columns_at_n = at_n e m.stands.plain name n m.stands.stands (there_known e.rows.tables (λ cs. has_column cs column && preds_known preds cs) name (early_tests e session (statements.Update name column value preds) m.early).0) is

    rows_are : (p : Plain) → StandsFor e p → found (view p session).tables (view p session).rows name preds ≡ plain_rows e n hits
    rows_are p s = found-is e p session n name preds hits m.seat s (place_view e session n name preds hits m.seat is update_table l p s) (hits_view e session n name preds hits m.seat is update_table l p s)

    changed_fit : (vs : List Value) → IsTrue (suits_table e.rows.tables n vs) → IsTrue (fits_columns (columns_in e.rows.tables name) (changed_value (columns_in e.rows.tables name) column value vs)) × IsTrue (are_values (changed_value (columns_in e.rows.tables name) column value vs))
    changed_fit vs s =
        let cs = columns_in e.rows.tables name in
        let fits : IsTrue (fits_columns cs vs) = sym (ap (λ o. fits_table o vs) columns_at_n) ∙ and_left _ (are_values vs) s in
        let each : IsTrue (list_all is_value vs) = and_right (is_count 64 (length vs)) _ (and_right (fits_table (columns_at e.rows.tables n) vs) _ s) in
        let kind : IsTrue (has_kind value (kind_in cs column)) = and_left _ (preds_fit cs preds) kinds_of in
        let good : IsTrue (is_value value) = and_right (is_name name && is_name column) _ (and_left _ (are_preds preds) m.spelled) in
        let new = fits_columns-set cs column vs value fits kind in
        (new, are_values-fit cs (changed_value cs column value vs) update_table.are new (list_all_set is_value vs _ value each good))

    all_fit : (some : List (ℕ × Place)) → AllSuit e n some → AllFit (columns_in e.rows.tables name) (map (changed_value (columns_in e.rows.tables name) column value) (values_at e n some))
    all_fit [] a = tt
    all_fit (x ∷ xs) a = let f = changed_fit (stored_in n (place_at e.rows.staged n x.1)).values a.0 in (f.0, f.1, all_fit xs a.1)

    fit_of : AllFit (columns_in e.rows.tables name) (map (changed_value (columns_in e.rows.tables name) column value) (values_at e n hits))
    fit_of = all_fit hits (all_suit e m.stands.plain session n _ hits m.seat m.stands.stands l.hits_are)

    ready_of : has_ids_for e (length hits) ≡ true → AreReady e n hits (update_of e n (changed_value (columns_in e.rows.tables name) column value) e.counts.next_id hits)
    ready_of ids =
        let f = the_found in
        let same : update_table.table ≡ f.table = some_inside update_table.table f.table (sym update_table.at ∙ f.at) in
        record {
          table = f.table;
          at = f.at;
          there = f.there;
          enough = ends-updates n e.counts.next_id hits _;
          fits = subst (λ cs. IsTrue (list_all (op_fits cs) (update_of e n (changed_value (columns_in e.rows.tables name) column value) e.counts.next_id hits))) (sym update_table.has ∙ ap (λ (s : Staged). s.columns) same) (updates-fit (columns_in e.rows.tables name) n e.counts.next_id hits _ fit_of);
          rule = updates-rule (columns_in e.rows.tables name) n e.counts.next_id e.counts.next_id hits _ update_table.small (next_small e m.stands.plain m.stands.stands) (ids_from e m.stands.plain (length hits) m.stands.stands ids) f.given fit_of;
        }

    work_of : IsWork e session (statements.Update name column value preds) n hits (update_of e n (changed_value (columns_in e.rows.tables name) column value) e.counts.next_id hits) (length hits) (λ t s. written t (update_of e n (changed_value (columns_in e.rows.tables name) column value) e.counts.next_id hits) hits s)
    work_of = record {
      changes_rows = λ p. refl;
      operations = λ p s. let r = reads e p session m.seat s in
          (λ i. updates (place_view e session n name preds hits m.seat is update_table l p s i) (r.next_id i) (changed_value (columns_in (r.tables i) name) column value) (rows_are p s i))
          ∙ updates-are e n e.counts.next_id (changed_value (columns_in e.rows.tables name) column value) hits;
      count = λ p s. ap length (rows_are p s) ∙ length-rows e n hits;
      none = nothing_of e n e.counts.next_id _ hits;
      some = something_of e n e.counts.next_id _ hits;
      limits = λ v. refl;
      clash = λ p s. ap (first_taken (view p session).taken) (rows_are p s) ∙ first_taken-is e p session n _ hits m.seat s (hits_view e session n name preds hits m.seat is update_table l p s);
      fits_inside = λ o p s free h. updates_fit e p session n name preds hits o _ m.seat h s (finds_free e session n name preds hits m.seat is update_table l free);
      fits_alone = λ p s free h. updates_fit_alone e p session n name preds hits _ m.seat h s (finds_free e session n name preds hits m.seat is update_table l free);
      staging = λ t s at alive. subst (λ (x : Staged). Staging e.rows.staged (slice_set e.rows.staged n x) t false e.counts.next_id (update_of e n (changed_value (columns_in e.rows.tables name) column value) e.counts.next_id hits)) (sym (written-updates n t e.counts.next_id hits _ s))
          (staging-updates e.rows.staged n t e.counts.next_id hits _ s at alive l.hits_are.scan.sorted (subst (λ (x : Staged). AreFound x hits) (some_inside the_found.table s (sym the_found.at ∙ at)) the_found.found));
    }

-- ---- the same of a statement that is an update

module _ (e : Held) (session : ℕ) (st : Statement) (target : Target) (value : Value) (m : MayChange e session st) (d : IsUpdate e.rows.tables st target value) where
  abbrev n : ℕ
  n = target.rows.table

  that : MayChange e session (statements.Update d.name d.column value d.preds)
  that = subst (λ x. MayChange e session x) d.is m

  is : n ≡ place_in e.rows.tables d.name
  is = sym (ap (λ (o : Option ℕ). unwrap_or o 0) d.target_is.rows.table)

  table : TableAt e n (columns_in e.rows.tables d.name)
  table = update_table e session n d.name d.column value d.preds that is

  pub update_small : target.rows.table < 65536
  update_small = table.small

  -- the place of the column is the one that is changed
  pub update_change : (row : List Value) → slice_set row target.column value ≡ changed_value (columns_in e.rows.tables d.name) d.column value row
  update_change row = ap (λ (o : Option ℕ). slice_set row (unwrap_or o 0) value) (sym d.target_is.place)

  module _ (hits : List (ℕ × Place)) (l : Looked e session target.rows.table d.preds hits) where
    pub update_found : FoundAt e target.rows.table hits
    update_found = the_found e session n d.name d.column value d.preds that is hits l

    pub update_ready : (os : List Op) → os ≡ update_of e target.rows.table (changed_value (columns_in e.rows.tables d.name) d.column value) e.counts.next_id hits → has_ids_for e (length hits) ≡ true → AreReady e target.rows.table hits os
    update_ready os made ids = subst (λ x. AreReady e n hits x) (sym made) (ready_of e session n d.name d.column value d.preds that is hits l ids)

    pub update_work : (os : List Op) (rows : ℕ) → os ≡ update_of e target.rows.table (changed_value (columns_in e.rows.tables d.name) d.column value) e.counts.next_id hits → rows ≡ length hits → IsWork e session st target.rows.table hits os rows (λ t s. written t os hits s)
    update_work os rows made count =
        subst (λ x. IsWork e session x n hits os rows (λ t s. written t os hits s)) (sym d.is)
        (subst (λ x. IsWork e session (statements.Update d.name d.column value d.preds) n hits os x (λ t s. written t os hits s)) (sym count)
        (subst (λ x. IsWork e session (statements.Update d.name d.column value d.preds) n hits x (length hits) (λ t s. written t x hits s)) (sym made) (work_of e session n d.name d.column value d.preds that is hits l)))

    -- without ids it is refused
    pub update_full : (rows : ℕ) → rows ≡ length hits → has_ids_for e rows ≡ false → Answers e session st (Answered (replies.Refused refusals.Full)) e
    update_full rows count none =
        let os = update_of e n (changed_value (columns_in e.rows.tables d.name) d.column value) e.counts.next_id hits in
        answers_refused e session st n hits os (length hits) (λ t s. written t os hits s) refusals.Full m (update_work os (length hits) refl refl)
        (no_ids e session n hits os (ap (has_ids_for e) (inserts-updates e n e.counts.next_id _ hits ∙ sym count) ∙ none))

    -- the operations that are made of the rows in the places, as they are read
    pub update_made : (inside : Held) (read : Staged) (os : List Op) → inside ≡ e → slice_get inside.rows.staged target.rows.table ≡ Some read
        → os ≡ updated_ops read target.rows.table inside.counts.next_id target.column value hits → os ≡ update_of e target.rows.table (changed_value (columns_in e.rows.tables d.name) d.column value) e.counts.next_id hits
    update_made inside read os same at made =
        let here : read ≡ update_found.table = some_inside read update_found.table (sym at ∙ ap (λ (x : Held). slice_get x.rows.staged target.rows.table) same ∙ update_found.at) in
        made ∙ (λ i. updated_ops (here i) n (same i).counts.next_id target.column value hits)
        ∙ updated-are e n e.counts.next_id target.column value update_found.table hits update_found.at
        ∙ (λ i. updates_of n e.counts.next_id hits (map (λ (row : List Value). update_change row i) (values_at e n hits)))
