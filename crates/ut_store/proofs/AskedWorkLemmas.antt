-- The work of the tasks that change rows.
use Rattle.std.proofs.Common.{ℕ, ◌<◌, ◌≤◌, ◌≡◌, Bool, true, false, List, [], ◌∷◌, length, Some, refl, sym, ap, ◌∙◌, subst, slice_get}
use Rattle.ut_value.specs.declared.value.Value.{Value}
use Rattle.ut_value.specs.declared.entry.Op.{Op}
use Rattle.ut_value.specs.declared.entry.Op.TheVariants as ops
use Rattle.ut_plain.specs.declared.statement.Pred.{Pred}
use Rattle.ut_plain.specs.declared.statement.Statement.{Statement}
use Rattle.ut_plain.specs.declared.reply.Refusal.TheVariants as refusals
use Rattle.ut_plain.specs.declared.reply.Reply.TheVariants as replies
use Rattle.ut_plain.specs.Made.{rows_of, inserts, changed_value}
use Rattle.ut_plain.specs.Rows.{inserts_of}
use Rattle.ut_plain.specs.Tables.{columns_in}
use Rattle.ut_plain.proofs.MadeLemmas.{inserts_of-inserts}
use Rattle.ut_stamps.specs.declared.place.Place.{Place}
use Rattle.ut_staged.specs.Staged.{Staged}
use Rattle.ut_names.specs.declared.bound.Task.TheVariants as tasks
use Rattle.ut_names.specs.declared.resolved.Selection.{Selection}
use Rattle.ut_names.specs.declared.resolved.Target.{Target}
use Rattle.ut_names.specs.Resolved.{IsSelection}
use Rattle.ut_change.specs.declared.bulk.Bulk.{Bulk}
use Rattle.ut_change.specs.Bulks.{bulk_ops}
use Rattle.ut_change.specs.Loads.{done_by}
use Rattle.ut_change.specs.Made.{updated_ops}
use Rattle.ut_change.proofs.MadeLemmas.{deletes_of}
use Rattle.ut_tables.specs.declared.work.Changes.{Changes}
use Rattle.ut_tables.specs.declared.work.Changes.TheVariants.{Enters, Loads}
use Rattle.ut_tables.specs.declared.work.Work.{Work}
use Rattle.ut_tables.specs.Works.{is_load, ops_in, places_of, worked}
use Rattle.ut_store.specs.declared.response.Response.TheVariants.{Answered}
use Rattle.ut_store.specs.Held.{Held}
use Rattle.ut_store.specs.Answers.{Answers}
use Rattle.ut_store.specs.Changes.{has_ids_for, AreReady, IsWork, Looked}
use Rattle.ut_store.specs.Executing.{IsAskedBy, MayExecute}
use Rattle.ut_store.specs.Standing.{Stands}
use Rattle.ut_store.specs.Works.{Does, IsReady}
use Rattle.ut_store.proofs.AskedLemmas.{is_insert, may_insert, is_bulk, may_load, is_delete, may_delete, is_update, may_update}
use Rattle.ut_store.proofs.KindLemmas.{insert_small, insert_ready, insert_work}
use Rattle.ut_store.proofs.LoadLemmas.{loads_well}
use Rattle.ut_store.proofs.BulkLemmas.{bulk_small, bulk_wide, bulk_ready, bulk_can, bulk_fits, bulk_work, bulk_full}
use Rattle.ut_store.proofs.DeleteLemmas.{delete_small, delete_few, delete_ready, delete_work, inserts-deletes}
use Rattle.ut_store.proofs.UpdateLemmas.{update_small, update_found, update_ready, update_work, update_full, update_made, update_of, inserts-updates}
use Rattle.ut_store.proofs.SearchLemmas.{FoundAt}
use Rattle.ut_store.proofs.ExecutedLemmas.{IsWorkOf}

-- ---- work that is written otherwise

module _ (e : Held) (session n : ℕ) (hs : List (ℕ × Place)) (os : List Op) (w : Work) (place : w.place ≡ n) (places : places_of w ≡ hs) (made : ops_in w.changes ≡ os) where
  does_by : (load : Bool) (count : ℕ) (st : Statement) → is_load w.changes ≡ load → w.rows ≡ count → IsWork e session st n hs os count (λ t s. done_by load os hs t s) → Does e session st w
  does_by load count st is many h =
      subst (λ (x : ℕ). IsWork e session st x (places_of w) (ops_in w.changes) w.rows (worked w)) (sym place)
      (subst (λ (x : List (ℕ × Place)). IsWork e session st n x (ops_in w.changes) w.rows (λ t s. done_by (is_load w.changes) (ops_in w.changes) x t s)) (sym places)
      (subst (λ (x : List Op). IsWork e session st n hs x w.rows (λ t s. done_by (is_load w.changes) x hs t s)) (sym made)
      (subst (λ (x : ℕ). IsWork e session st n hs os x (λ t s. done_by (is_load w.changes) os hs t s)) (sym many)
      (subst (λ (x : Bool). IsWork e session st n hs os count (λ t s. done_by x os hs t s)) (sym is) h))))

  suits_by : AreReady e n hs os → AreReady e w.place (places_of w) (ops_in w.changes)
  suits_by r =
      subst (λ (x : ℕ). AreReady e x (places_of w) (ops_in w.changes)) (sym place)
      (subst (λ (x : List (ℕ × Place)). AreReady e n x (ops_in w.changes)) (sym places)
      (subst (λ (x : List Op). AreReady e n hs x) (sym made) r))

-- what loads no rows has none to load
no_load : (x : Changes) (b : Bulk) → is_load x ≡ false → x ≡ Loads b → ⊥
no_load x b none is = let no : true ≡ false = sym (ap is_load is) ∙ none in cc

-- ---- insert

module _ (e : Held) (session n : ℕ) (values : List Value) where
  -- the work of an insert, with this id
  abbrev pub entering : ℕ → Work
  entering id = record { place = n; changes = Enters (record { table = n; id = id; values = values }); rows = 1; inserts = 1 }

  pub entering_small : MayExecute e session (tasks.Insert n values) → n < 65536
  entering_small m =
      let i = is_insert e session m.st n values m.asked in
      insert_small e session n m.st i.name values (may_insert e session m.st n values m.seat m.stands m.asked) i.is i.at

  pub entering_ready : (id : ℕ) → MayExecute e session (tasks.Insert n values) → id ≡ e.counts.next_id → IsReady e (entering id)
  entering_ready id m same =
      let i = is_insert e session m.st n values m.asked in
      record {
        suits = insert_ready e session n m.st i.name values (ops.Insert n id values ∷ []) (may_insert e session m.st n values m.seat m.stands m.asked) i.is i.at (ap (λ (k : ℕ). ops.Insert n k values ∷ []) same);
        loads = λ b is. cc;
        count = refl;
      }

  pub entering_work : (id : ℕ) → session < 17 → Stands e → id ≡ e.counts.next_id → IsWorkOf e session (tasks.Insert n values) (entering id)
  entering_work id small stands same = record {
    may = λ st a. may_insert e session st n values small stands a;
    does = λ st a. let i = is_insert e session st n values a in
        insert_work e session n st i.name values (ops.Insert n id values ∷ []) (may_insert e session st n values small stands a) i.is i.at (ap (λ (k : ℕ). ops.Insert n k values ∷ []) same);
  }

-- ---- bulk

module _ (e : Held) (session n width : ℕ) (values : List Value) where
  abbrev rows : List (List Value)
  rows = rows_of width values

  pub loading_small : MayExecute e session (tasks.Load n width values) → n < 65536
  loading_small m = bulk_small e session m.st n width values (may_load e session m.st n width values m.seat m.stands m.asked) (is_bulk e session m.st n width values m.asked)

  pub loading_wide : MayExecute e session (tasks.Load n width values) → 0 < width
  loading_wide m = bulk_wide e session m.st n width values (may_load e session m.st n width values m.seat m.stands m.asked) (is_bulk e session m.st n width values m.asked)

  -- without ids it is refused
  pub loading_full : (count : ℕ) → count ≡ length (rows_of width values) → has_ids_for e count ≡ false → session < 17 → Stands e → (st : Statement)
      → IsAskedBy e.rows.tables session (tasks.Load n width values) st → Answers e session st (Answered (replies.Refused refusals.Full)) e
  loading_full count many none small stands st a = bulk_full e session st n width values (may_load e session st n width values small stands a) (is_bulk e session st n width values a) count many none

  module _ (b : Bulk) (table : b.table ≡ n) (id : b.id ≡ e.counts.next_id) (wide : b.width ≡ width) (are : b.values.now ≡ values) (count : ℕ) (many : count ≡ length (rows_of width values)) where
    -- the work of a bulk
    abbrev pub loading : Work
    loading = record { place = n; changes = Loads b; rows = count; inserts = count }

    made : bulk_ops b ≡ inserts n e.counts.next_id rows
    made = λ i. inserts (table i) (id i) (rows_of (wide i) (are i))

    pub loading_ready : MayExecute e session (tasks.Load n width values) → has_ids_for e (length (rows_of width values)) ≡ true → IsReady e loading
    loading_ready m ids =
        let may = may_load e session m.st n width values m.seat m.stands m.asked in
        let is = is_bulk e session m.st n width values m.asked in
        record {
          suits = suits_by e session n [] (inserts n e.counts.next_id rows) loading refl refl made (bulk_ready e session m.st n width values may is ids);
          loads = loads_well e.rows n b (bulk_can e session m.st n width values may is b table id wide are ids) (bulk_fits e session m.st n width values may is b wide);
          count = many ∙ sym (ap inserts_of made ∙ inserts_of-inserts n e.counts.next_id rows);
        }

    pub loading_work : session < 17 → Stands e → IsWorkOf e session (tasks.Load n width values) loading
    loading_work small stands = record {
      may = λ st a. may_load e session st n width values small stands a;
      does = λ st a. does_by e session n [] (inserts n e.counts.next_id rows) loading refl refl made true count st refl refl
          (bulk_work e session st n width values (may_load e session st n width values small stands a) (is_bulk e session st n width values a) count many);
    }

-- ---- delete

module _ (e : Held) (session : ℕ) (rows : Selection) where
  pub deleting_small : MayExecute e session (tasks.Delete rows) → rows.table < 65536
  deleting_small m = delete_small e session m.st rows (may_delete e session m.st rows m.seat m.stands m.asked) (is_delete e session m.st rows m.asked)

  looked : (st : Statement) (hs : List (ℕ × Place)) (a : IsAskedBy e.rows.tables session (tasks.Delete rows) st) → ((name : List ℕ) (asked : List Pred) → IsSelection e.rows.tables name asked rows → Looked e session rows.table asked hs) → Looked e session rows.table (is_delete e session st rows a).preds hs
  looked st hs a l = let d = is_delete e session st rows a in l d.name d.preds d.rows_are

  module _ (hs : List (ℕ × Place)) (l : (name : List ℕ) (asked : List Pred) → IsSelection e.rows.tables name asked rows → Looked e session rows.table asked hs) where
    pub deleting_few : MayExecute e session (tasks.Delete rows) → length hs ≤ 2147483649
    deleting_few m = delete_few e session m.st rows (may_delete e session m.st rows m.seat m.stands m.asked) (is_delete e session m.st rows m.asked) hs (looked m.st hs m.asked l)

    module _ (w : Work) (place : w.place ≡ rows.table) (places : places_of w ≡ hs) (made : ops_in w.changes ≡ deletes_of rows.table hs) (none : w.inserts ≡ 0) (alike : is_load w.changes ≡ false) where
      pub deleting_ready : MayExecute e session (tasks.Delete rows) → IsReady e w
      deleting_ready m = record {
        suits = suits_by e session rows.table hs (deletes_of rows.table hs) w place places made
            (delete_ready e session m.st rows (may_delete e session m.st rows m.seat m.stands m.asked) (is_delete e session m.st rows m.asked) hs (looked m.st hs m.asked l) (deletes_of rows.table hs) refl);
        loads = λ b is. absurd (no_load w.changes b alike is);
        count = none ∙ sym (ap inserts_of made ∙ inserts-deletes rows.table hs);
      }

      pub deleting_work : w.rows ≡ length hs → session < 17 → Stands e → IsWorkOf e session (tasks.Delete rows) w
      deleting_work many small stands = record {
        may = λ st a. may_delete e session st rows small stands a;
        does = λ st a. does_by e session rows.table hs (deletes_of rows.table hs) w place places made false (length hs) st alike many
            (delete_work e session st rows (may_delete e session st rows small stands a) (is_delete e session st rows a) hs (looked st hs a l) (deletes_of rows.table hs) (length hs) refl refl);
      }

-- ---- update

module _ (e : Held) (session : ℕ) (target : Target) (value : Value) where
  pub updating_small : MayExecute e session (tasks.Update target value) → target.rows.table < 65536
  updating_small m = update_small e session m.st target value (may_update e session m.st target value m.seat m.stands m.asked) (is_update e session m.st target value m.asked)

  found : (st : Statement) (hs : List (ℕ × Place)) (a : IsAskedBy e.rows.tables session (tasks.Update target value) st)
      → ((name : List ℕ) (asked : List Pred) → IsSelection e.rows.tables name asked target.rows → Looked e session target.rows.table asked hs) → Looked e session target.rows.table (is_update e session st target value a).preds hs
  found st hs a l = let d = is_update e session st target value a in l d.name d.preds d.target_is.rows

  module _ (hs : List (ℕ × Place)) (l : (name : List ℕ) (asked : List Pred) → IsSelection e.rows.tables name asked target.rows → Looked e session target.rows.table asked hs) where
    pub updating_found : MayExecute e session (tasks.Update target value) → FoundAt e target.rows.table hs
    updating_found m = update_found e session m.st target value (may_update e session m.st target value m.seat m.stands m.asked) (is_update e session m.st target value m.asked) hs (found m.st hs m.asked l)

    -- without ids it is refused
    pub updating_full : (count : ℕ) → count ≡ length hs → has_ids_for e count ≡ false → session < 17 → Stands e → (st : Statement) → IsAskedBy e.rows.tables session (tasks.Update target value) st
        → Answers e session st (Answered (replies.Refused refusals.Full)) e
    updating_full count many none small stands st a =
        update_full e session st target value (may_update e session st target value small stands a) (is_update e session st target value a) hs (found st hs a l) count many none

    module _ (inside : Held) (read : Staged) (w : Work) (same : inside ≡ e) (at : slice_get inside.rows.staged target.rows.table ≡ Some read) (place : w.place ≡ target.rows.table) (places : places_of w ≡ hs)
        (made : ops_in w.changes ≡ updated_ops read target.rows.table inside.counts.next_id target.column value hs) (inserted : w.inserts ≡ length hs) (alike : is_load w.changes ≡ false) where
      -- the operations, by the columns that a statement names
      are : session < 17 → Stands e → (st : Statement) (a : IsAskedBy e.rows.tables session (tasks.Update target value) st)
          → ops_in w.changes ≡ update_of e target.rows.table (changed_value (columns_in e.rows.tables (is_update e session st target value a).name) (is_update e session st target value a).column value) e.counts.next_id hs
      are small stands st a =
          update_made e session st target value (may_update e session st target value small stands a) (is_update e session st target value a) hs (found st hs a l) inside read (ops_in w.changes) same at made

      pub updating_ready : (m : MayExecute e session (tasks.Update target value)) → has_ids_for e (length hs) ≡ true → IsReady e w
      updating_ready m ids =
          let may = may_update e session m.st target value m.seat m.stands m.asked in
          let d = is_update e session m.st target value m.asked in
          let os = update_of e target.rows.table (changed_value (columns_in e.rows.tables d.name) d.column value) e.counts.next_id hs in
          let is : ops_in w.changes ≡ os = are m.seat m.stands m.st m.asked in
          record {
            suits = suits_by e session target.rows.table hs os w place places is (update_ready e session m.st target value may d hs (found m.st hs m.asked l) os refl ids);
            loads = λ b same. absurd (no_load w.changes b alike same);
            count = inserted ∙ sym (ap inserts_of is ∙ inserts-updates e target.rows.table e.counts.next_id (changed_value (columns_in e.rows.tables d.name) d.column value) hs);
          }

      pub updating_work : w.rows ≡ length hs → session < 17 → Stands e → IsWorkOf e session (tasks.Update target value) w
      updating_work many small stands = record {
        may = λ st a. may_update e session st target value small stands a;
        does = λ st a.
            let d = is_update e session st target value a in
            let os = update_of e target.rows.table (changed_value (columns_in e.rows.tables d.name) d.column value) e.counts.next_id hs in
            does_by e session target.rows.table hs os w place places (are small stands st a) false (length hs) st alike many
            (update_work e session st target value (may_update e session st target value small stands a) d hs (found st hs a l) os (length hs) refl refl);
      }
