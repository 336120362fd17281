-- The operations of a delete.
use Rattle.std.proofs.Common.{ℕ, ◌<◌, ◌≤◌, ◌≡◌, false, List, [], ◌∷◌, length, Option, Some, refl, sym, ap, ◌∙◌, subst, arith, slice_get, slice_set, unwrap_or}
use Rattle.std.proofs.lemmas.List.Sums.{sum_by-cons}
use Rattle.ut_value.specs.declared.entry.Op.{Op}
use Rattle.ut_value.specs.declared.entry.Op.TheVariants as ops
use Rattle.ut_plain.specs.declared.statement.Statement.{Statement}
use Rattle.ut_plain.specs.declared.statement.Statement.TheVariants as statements
use Rattle.ut_plain.specs.declared.statement.Pred.{Pred}
use Rattle.ut_plain.specs.Tables.{place_in, columns_in}
use Rattle.ut_plain.specs.Names.{preds_known}
use Rattle.ut_plain.specs.Condition.{found}
use Rattle.ut_plain.specs.Made.{deletes_all}
use Rattle.ut_plain.specs.Rows.{inserts_of, op_inserts}
use Rattle.ut_plain.specs.Refusals.{first_taken}
use Rattle.ut_plain.specs.Plain.{Plain}
use Rattle.ut_plain.specs.View.{view}
use Rattle.ut_plain.proofs.TableLemmas.{there_known}
use Rattle.ut_stamps.specs.declared.place.Place.{Place}
use Rattle.ut_names.specs.declared.resolved.Selection.{Selection}
use Rattle.ut_staged.specs.Staged.{Staged}
use Rattle.ut_change.proofs.MadeLemmas.{deletes_of, deletes-fit, deletes-rule, ends-deletes, deletes-none, deletes-some}
use Rattle.ut_store.specs.Held.{Held}
use Rattle.ut_store.specs.Stands.{StandsFor}
use Rattle.ut_store.specs.Hits.{plain_rows}
use Rattle.ut_staged.specs.Staging.{Staging, written, AreFound}
use Rattle.ut_store.specs.Changes.{Looked, MayChange, AreReady, IsDelete, IsWork}
use Rattle.ut_store.proofs.IndexLemmas.{some_inside}
use Rattle.ut_store.proofs.HitLemmas.{found-is, first_taken-is}
use Rattle.ut_store.proofs.MadeLemmas.{deletes-are, length-rows, deletes_fit, deletes_fit_alone}
use Rattle.ut_staged.proofs.StagingLemmas.{staging-deletes, written-deletes}
use Rattle.ut_store.proofs.KindLemmas.{early_tests, TableAt, table_at, next_small}
use Rattle.ut_store.proofs.SearchLemmas.{place_view, hits_view, finds_free, FoundAt, found_places}

-- ---- the statement

module _ (e : Held) (session n : ℕ) (name : List ℕ) (preds : List Pred) (m : MayChange e session (statements.Delete name preds)) (is : n ≡ place_in e.rows.tables name) where
  delete_table : TableAt e n (columns_in e.rows.tables name)
  delete_table = table_at e m.stands.plain name n m.stands.stands (there_known e.rows.tables (preds_known preds) name (early_tests e session (statements.Delete name preds) m.early).0) is

  module _ (hits : List (ℕ × Place)) (l : Looked e session n preds hits) where
    the_found : FoundAt e n hits
    the_found = found_places e m.stands.plain session n preds hits m.seat m.stands.stands l

    ready_of : AreReady e n hits (deletes_of n hits)
    ready_of = let f = the_found in record {
      table = f.table;
      at = f.at;
      there = f.there;
      enough = let ends = ends-deletes n hits in omega (arith, ends);
      fits = deletes-fit f.table.columns n hits;
      rule = deletes-rule n e.counts.next_id hits delete_table.small (next_small e m.stands.plain m.stands.stands) f.given;
    }

    rows_are : (p : Plain) → StandsFor e p → found (view p session).tables (view p session).rows name preds ≡ plain_rows e n hits
    rows_are p s = found-is e p session n name preds hits m.seat s (place_view e session n name preds hits m.seat is delete_table l p s) (hits_view e session n name preds hits m.seat is delete_table l p s)

    work_of : IsWork e session (statements.Delete name preds) n hits (deletes_of n hits) (length hits) (λ t s. written t (deletes_of n hits) hits s)
    work_of = record {
      changes_rows = λ p. refl;
      operations = λ p s. (λ i. deletes_all (place_view e session n name preds hits m.seat is delete_table l p s i) (rows_are p s i)) ∙ deletes-are e n hits;
      count = λ p s. ap length (rows_are p s) ∙ length-rows e n hits;
      none = deletes-none n hits;
      some = deletes-some n hits;
      limits = λ v. refl;
      clash = λ p s. ap (first_taken (view p session).taken) (rows_are p s) ∙ first_taken-is e p session n _ hits m.seat s (hits_view e session n name preds hits m.seat is delete_table l p s);
      fits_inside = λ o p s free h. deletes_fit e p session n name preds hits o m.seat h s (finds_free e session n name preds hits m.seat is delete_table l free);
      fits_alone = λ p s free h. deletes_fit_alone e p session n name preds hits m.seat h s (finds_free e session n name preds hits m.seat is delete_table l free);
      staging = λ t s at alive. subst (λ (x : Staged). Staging e.rows.staged (slice_set e.rows.staged n x) t false e.counts.next_id (deletes_of n hits)) (sym (written-deletes n t hits s))
          (staging-deletes e.rows.staged n t e.counts.next_id hits s at l.hits_are.scan.sorted (found_places_at t s at));
    }
      where
        found_places_at : (t : ℕ) (s : Staged) → slice_get e.rows.staged n ≡ Some s → AreFound s hits
        found_places_at t s at = subst (λ (x : Staged). AreFound x hits) (some_inside the_found.table s (sym the_found.at ∙ at)) the_found.found

-- deletes insert nothing
pub inserts-deletes : (n : ℕ) (hits : List (ℕ × Place)) → inserts_of (deletes_of n hits) ≡ 0
inserts-deletes n [] = refl
inserts-deletes n (x ∷ xs) = let rest = inserts-deletes n xs in let one = sum_by-cons op_inserts (ops.Delete n x.0) (deletes_of n xs) in omega (arith, rest, one)

-- ---- the same of a statement that is a delete

module _ (e : Held) (session : ℕ) (st : Statement) (rows : Selection) (m : MayChange e session st) (d : IsDelete e.rows.tables st rows) where
  that : MayChange e session (statements.Delete d.name d.preds)
  that = subst (λ x. MayChange e session x) d.is m

  is : rows.table ≡ place_in e.rows.tables d.name
  is = sym (ap (λ (o : Option ℕ). unwrap_or o 0) d.rows_are.table)

  pub delete_small : rows.table < 65536
  delete_small = (delete_table e session rows.table d.name d.preds that is).small

  module _ (hits : List (ℕ × Place)) (l : Looked e session rows.table d.preds hits) where
    pub delete_few : length hits ≤ 2147483649
    delete_few = let few = (the_found e session rows.table d.name d.preds that is hits l).few in let next = next_small e m.stands.plain m.stands.stands in omega arith

    pub delete_ready : (os : List Op) → os ≡ deletes_of rows.table hits → AreReady e rows.table hits os
    delete_ready os made = subst (λ x. AreReady e rows.table hits x) (sym made) (ready_of e session rows.table d.name d.preds that is hits l)

    pub delete_work : (os : List Op) (count : ℕ) → os ≡ deletes_of rows.table hits → count ≡ length hits → IsWork e session st rows.table hits os count (λ t s. written t os hits s)
    delete_work os count made many =
        subst (λ x. IsWork e session x rows.table hits os count (λ t s. written t os hits s)) (sym d.is)
        (subst (λ x. IsWork e session (statements.Delete d.name d.preds) rows.table hits os x (λ t s. written t os hits s)) (sym many)
        (subst (λ x. IsWork e session (statements.Delete d.name d.preds) rows.table hits x (length hits) (λ t s. written t x hits s)) (sym made) (work_of e session rows.table d.name d.preds that is hits l)))
