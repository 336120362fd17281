-- The table of a statement that no early refusal keeps back.
use Rattle.std.proofs.Common.{ℕ, zero, suc, ◌<◌, ◌≤◌, ◌≡◌, Bool, true, false, ◌&&◌, List, [], ◌∷◌, map, Option, None, Some, refl, sym, ap, ◌∙◌, subst, arith, IsTrue, lt-ltb, slice_get, unwrap_or}
use Rattle.std.specs.List.{list_all}
use Rattle.ut_value.specs.declared.value.Column.{Column}
use Rattle.ut_value.specs.declared.value.Value.{Value}
use Rattle.ut_value.specs.declared.entry.Op.{Op}
use Rattle.ut_value.specs.declared.entry.Op.TheVariants as ops
use Rattle.ut_value.specs.KeyBytes.{is_value}
use Rattle.ut_value.specs.Text.{is_name}
use Rattle.ut_value.specs.Spelling.{is_u16, is_u32, are_values, are_columns}
use Rattle.ut_plain.specs.declared.table.Table.{Table}
use Rattle.ut_plain.specs.declared.statement.Statement.{Statement}
use Rattle.ut_plain.specs.declared.statement.Statement.TheVariants as statements
use Rattle.ut_plain.specs.declared.reply.Refusal.{Refusal}
use Rattle.ut_plain.specs.declared.reply.Refusal.TheVariants as refusals
use Rattle.ut_plain.specs.Tables.{fits_columns, columns_at, place_in, columns_in}
use Rattle.ut_plain.specs.Names.{names_known}
use Rattle.ut_plain.specs.Kinds.{kinds_fit}
use Rattle.ut_plain.specs.Made.{inserts}
use Rattle.ut_plain.specs.Refusals.{unless, or_else}
use Rattle.ut_plain.specs.Spelled.{are_some_values}
use Rattle.ut_plain.specs.Plain.{Plain}
use Rattle.ut_plain.proofs.BoolLemmas.{and_right, and_both}
use Rattle.ut_plain.proofs.TableLemmas.{IsThere, there, are_values-fit}
use Rattle.ut_plain.proofs.PassedLemmas.{table_is}
use Rattle.ut_staged.specs.Staged.{Staged}
use Rattle.ut_store.specs.Held.{Held}
use Rattle.ut_store.specs.Stands.{StandsFor}
use Rattle.ut_store.specs.Early.{early_refusal}
use Rattle.ut_staged.specs.Staging.{written}
use Rattle.ut_store.specs.Changes.{MayChange, AreReady, IsWork}
use Rattle.ut_store.proofs.ReadLemmas.{reads}
use Rattle.ut_staged.proofs.StagingLemmas.{staging-insert}

-- ---- the early tests

test_passed : (test : Bool) (why : Refusal) (rest : Option Refusal) → or_else (unless test why) rest ≡ None → (test ≡ true) × (rest ≡ None)
test_passed true why rest h = (refl, h)
test_passed false why rest h = cc

pub early_tests : (e : Held) (session : ℕ) (st : Statement) → early_refusal e session st ≡ None → (names_known e.rows.tables st ≡ true) × (kinds_fit e.rows.tables st ≡ true)
early_tests e session st h =
    let a = test_passed (names_known e.rows.tables st) refusals.Name _ h in
    let b = test_passed (kinds_fit e.rows.tables st) refusals.Kind _ a.1 in
    (a.0, b.0)

-- ---- the table

-- a table of these columns stands at a place
pub record TableAt (e : Held) (n : ℕ) (columns : List Column) : Type 0 where
  pub small : n < 65536
  pub are : IsTrue (are_columns columns)
  pub table : Staged
  pub at : slice_get e.rows.staged n ≡ Some table
  pub has : table.columns ≡ columns

staged_with : (staged : List Staged) (n : ℕ) (columns : List Column) → slice_get (map (λ (s : Staged). s.columns) staged) n ≡ Some columns → (s : Staged) × (slice_get staged n ≡ Some s) × (s.columns ≡ columns)
staged_with [] n columns h = cc
staged_with (s ∷ ss) zero columns h = (s, refl, ap (λ o. unwrap_or o s.columns) h)
staged_with (s ∷ ss) (suc n) columns h = staged_with ss n columns h

columns_mapped : (tables : List Table) (n : ℕ) → slice_get (map (λ (t : Table). t.columns) tables) n ≡ columns_at tables n
columns_mapped [] n = refl
columns_mapped (t ∷ ts) zero = refl
columns_mapped (t ∷ ts) (suc n) = columns_mapped ts n

pub at_n : (e : Held) (p : Plain) (name : List ℕ) (n : ℕ) → StandsFor e p → IsThere e.rows.tables name → n ≡ place_in e.rows.tables name → columns_at e.rows.tables n ≡ Some (columns_in e.rows.tables name)
at_n e p name n s is at =
    let t = table_is p name s.plain (subst (λ ts. IsThere ts name) s.counts.tables is) in
    ap (columns_at e.rows.tables) at ∙ subst (λ ts. columns_at ts (place_in ts name) ≡ Some (columns_in ts name)) (sym s.counts.tables) t.at

pub table_at : (e : Held) (p : Plain) (name : List ℕ) (n : ℕ) → StandsFor e p → IsThere e.rows.tables name → n ≡ place_in e.rows.tables name → TableAt e n (columns_in e.rows.tables name)
table_at e p name n s is at_n =
    let t = table_is p name s.plain (subst (λ ts. IsThere ts name) s.counts.tables is) in
    let same = sym s.counts.tables in
    let at : columns_at e.rows.tables n ≡ Some (columns_in e.rows.tables name) =
    ap (columns_at e.rows.tables) at_n ∙ subst (λ ts. columns_at ts (place_in ts name) ≡ Some (columns_in ts name)) same t.at in
    let found = staged_with e.rows.staged n (columns_in e.rows.tables name) (ap (λ cs. slice_get cs n) s.rows.columns ∙ columns_mapped e.rows.tables n ∙ at) in
    let few : place_in e.rows.tables name < 65536 = subst (λ ts. place_in ts name < 65536) same t.few in
    record {
      small = omega (arith, few, at_n);
      are = subst (λ ts. IsTrue (are_columns (columns_in ts name))) same t.columns;
      table = found.0;
      at = found.1;
      has = found.2;
    }

-- the id of the next row has 32 bits
pub next_small : (e : Held) (p : Plain) → StandsFor e p → e.counts.next_id ≤ 2147483649
next_small e p s = let last = s.plain.last in let next = s.counts.next_id in omega (arith, last, next)

-- ---- insert

insert_table : (e : Held) (session n : ℕ) (name : List ℕ) (values : List Value) → MayChange e session (statements.Insert name values) → n ≡ place_in e.rows.tables name → TableAt e n (columns_in e.rows.tables name)
insert_table e session n name values m is = table_at e m.stands.plain name n m.stands.stands (there e.rows.tables name (early_tests e session (statements.Insert name values) m.early).0) is

insert_ready_of : (e : Held) (session n : ℕ) (name : List ℕ) (values : List Value) → MayChange e session (statements.Insert name values) → n ≡ place_in e.rows.tables name → AreReady e n [] (ops.Insert n e.counts.next_id values ∷ [])
insert_ready_of e session n name values m is =
    let t = insert_table e session n name values m is in
    let fits : IsTrue (fits_columns (columns_in e.rows.tables name) values) = (early_tests e session (statements.Insert name values) m.early).1 in
    let each : IsTrue (list_all is_value values) = and_right _ _ (and_right (is_name name) (are_some_values values) m.spelled) in
    let next = next_small e m.stands.plain m.stands.stands in
    record {
      table = t.table;
      at = t.at;
      there = tt;
      enough = omega arith;
      fits = and_both _ true (ap (λ cs. fits_columns cs values) t.has ∙ fits) refl;
      rule = and_both _ true (and_both (is_u16 n && is_u32 e.counts.next_id) (are_values values) (and_both (is_u16 n) (is_u32 e.counts.next_id) (lt-ltb n 65536 t.small) (lt-ltb e.counts.next_id 4294967296 (omega (arith, next)))) (are_values-fit (columns_in e.rows.tables name) values t.are fits each)) refl;
    }

insert_work_of : (e : Held) (session n : ℕ) (name : List ℕ) (values : List Value) → MayChange e session (statements.Insert name values) → n ≡ place_in e.rows.tables name
    → IsWork e session (statements.Insert name values) n [] (ops.Insert n e.counts.next_id values ∷ []) 1 (λ t s. written t (ops.Insert n e.counts.next_id values ∷ []) [] s)
insert_work_of e session n name values m is = record {
  changes_rows = λ p. refl;
  operations = λ p s. let r = reads e p session m.seat s in
      (λ i. inserts (place_in (r.tables i) name) (r.next_id i) (values ∷ [])) ∙ ap (λ k. ops.Insert k e.counts.next_id values ∷ []) (sym is);
  count = λ p s. refl;
  none = λ h. cc;
  some = λ op rest h. omega arith;
  limits = λ v. refl;
  clash = λ p s. refl;
  fits_inside = λ o p s free h. (refl, tt);
  fits_alone = λ p s free h. (refl, tt);
  staging = λ t s at alive. staging-insert e.rows.staged n t e.counts.next_id values s at alive;
}

pub insert_small : (e : Held) (session n : ℕ) (st : Statement) (name : List ℕ) (values : List Value) → MayChange e session st → st ≡ statements.Insert name values → n ≡ place_in e.rows.tables name → n < 65536
insert_small e session n st name values m h is = (insert_table e session n name values (subst (λ x. MayChange e session x) h m) is).small

pub insert_ready : (e : Held) (session n : ℕ) (st : Statement) (name : List ℕ) (values : List Value) (os : List Op) → MayChange e session st → st ≡ statements.Insert name values → n ≡ place_in e.rows.tables name → os ≡ ops.Insert n e.counts.next_id values ∷ [] → AreReady e n [] os
insert_ready e session n st name values os m h is made = subst (λ x. AreReady e n [] x) (sym made) (insert_ready_of e session n name values (subst (λ x. MayChange e session x) h m) is)

pub insert_work : (e : Held) (session n : ℕ) (st : Statement) (name : List ℕ) (values : List Value) (os : List Op) → MayChange e session st → st ≡ statements.Insert name values → n ≡ place_in e.rows.tables name → os ≡ ops.Insert n e.counts.next_id values ∷ []
    → IsWork e session st n [] os 1 (λ t s. written t os [] s)
insert_work e session n st name values os m h is made =
    subst (λ x. IsWork e session x n [] os 1 (λ t s. written t os [] s)) (sym h)
    (subst (λ x. IsWork e session (statements.Insert name values) n [] x 1 (λ t s. written t x [] s)) (sym made) (insert_work_of e session n name values (subst (λ x. MayChange e session x) h m) is))
