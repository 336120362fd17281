-- Which statements are bound to a task: those of its kind.
use Rattle.std.proofs.Common.{ℕ, ◌≡◌, List, length, Some, refl, sym, ap, subst}
use Rattle.ut_value.specs.declared.value.Value.{Value}
use Rattle.ut_value.specs.declared.entry.MergeKind.{MergeKind}
use Rattle.ut_plain.specs.declared.table.Table.{Table}
use Rattle.ut_plain.specs.declared.statement.Pred.{Pred}
use Rattle.ut_plain.specs.declared.statement.Query.{Query}
use Rattle.ut_plain.specs.declared.statement.Statement.{Statement}
use Rattle.ut_plain.specs.declared.statement.Statement.TheVariants as statements
use Rattle.ut_plain.specs.Tables.{place_of, columns_in}
use Rattle.ut_names.specs.declared.resolved.Selection.{Selection}
use Rattle.ut_names.specs.declared.resolved.Target.{Target}
use Rattle.ut_names.specs.declared.resolved.Question.{Question}
use Rattle.ut_names.specs.declared.bound.Task.TheVariants as tasks
use Rattle.ut_names.specs.Resolved.{IsSelection, IsTarget, IsQuestion}
use Rattle.ut_names.specs.Binding.{IsTask}

module _ (tables : List Table) where
  pub record OfCreate (table : Table) (st : Statement) : Type 0 where
    pub is : st ≡ statements.Create table.name table.columns

  pub of_create : (table : Table) (st : Statement) → IsTask tables st (tasks.Create table) → OfCreate table st
  of_create table (statements.Create name columns) h = record { is = (λ i. statements.Create (sym h i).name (sym h i).columns) }
  of_create table _ h = absurd h

  pub record OfInsert (n : ℕ) (values : List Value) (st : Statement) : Type 0 where
    pub name : List ℕ
    pub is : st ≡ statements.Insert name values
    pub at : place_of tables name ≡ Some n

  pub of_insert : (n : ℕ) (values : List Value) (st : Statement) → IsTask tables st (tasks.Insert n values) → OfInsert n values st
  of_insert n values (statements.Insert name given) h = record { name = name; is = ap (statements.Insert name) (sym h.1); at = h.0 }
  of_insert n values _ h = absurd h

  pub record OfLoad (n width : ℕ) (values : List Value) (st : Statement) : Type 0 where
    pub name : List ℕ
    pub is : st ≡ statements.Bulk name values
    pub at : place_of tables name ≡ Some n
    pub wide : width ≡ length (columns_in tables name)

  pub of_load : (n width : ℕ) (values : List Value) (st : Statement) → IsTask tables st (tasks.Load n width values) → OfLoad n width values st
  of_load n width values (statements.Bulk name given) h = record { name = name; is = ap (statements.Bulk name) (sym h.2); at = h.0; wide = h.1 }
  of_load n width values _ h = absurd h

  pub record OfUpdate (target : Target) (value : Value) (st : Statement) : Type 0 where
    pub name : List ℕ
    pub column : List ℕ
    pub preds : List Pred
    pub is : st ≡ statements.Update name column value preds
    pub target_is : IsTarget tables name column value preds target

  pub of_update : (target : Target) (value : Value) (st : Statement) → IsTask tables st (tasks.Update target value) → OfUpdate target value st
  of_update target value (statements.Update name column given preds) h = record {
    name = name;
    column = column;
    preds = preds;
    is = ap (λ (v : Value). statements.Update name column v preds) (sym h.1);
    target_is = subst (λ (v : Value). IsTarget tables name column v preds target) (sym h.1) h.0;
  }
  of_update target value _ h = absurd h

  pub record OfDelete (rows : Selection) (st : Statement) : Type 0 where
    pub name : List ℕ
    pub preds : List Pred
    pub is : st ≡ statements.Delete name preds
    pub rows_are : IsSelection tables name preds rows

  pub of_delete : (rows : Selection) (st : Statement) → IsTask tables st (tasks.Delete rows) → OfDelete rows st
  of_delete rows (statements.Delete name preds) h = record { name = name; preds = preds; is = refl; rows_are = h }
  of_delete rows _ h = absurd h

  pub record OfAsk (question : Question) (st : Statement) : Type 0 where
    pub query : Query
    pub is : st ≡ statements.Ask query
    pub question_is : IsQuestion tables query question

  pub of_ask : (question : Question) (st : Statement) → IsTask tables st (tasks.Ask question) → OfAsk question st
  of_ask question (statements.Ask query) h = record { query = query; is = refl; question_is = h }
  of_ask question _ h = absurd h

  pub of_begin : (st : Statement) → IsTask tables st tasks.Begin → st ≡ statements.Begin
  of_begin statements.Begin h = refl
  of_begin _ h = absurd h

  pub of_commit : (st : Statement) → IsTask tables st tasks.Commit → st ≡ statements.Commit
  of_commit statements.Commit h = refl
  of_commit _ h = absurd h

  pub of_abort : (st : Statement) → IsTask tables st tasks.Abort → st ≡ statements.Abort
  of_abort statements.Abort h = refl
  of_abort _ h = absurd h

  pub record OfMergeL1 (at n : ℕ) (st : Statement) : Type 0 where
    pub name : List ℕ
    pub is : st ≡ statements.MergeL1 name n
    pub place : place_of tables name ≡ Some at

  pub of_merge_l1 : (at n : ℕ) (st : Statement) → IsTask tables st (tasks.MergeL1 at n) → OfMergeL1 at n st
  of_merge_l1 at n (statements.MergeL1 name m) h = record { name = name; is = ap (statements.MergeL1 name) (sym h.1); place = h.0 }
  of_merge_l1 at n _ h = absurd h

  pub record OfMerge (at : ℕ) (kind : MergeKind) (st : Statement) : Type 0 where
    pub name : List ℕ
    pub is : st ≡ statements.MergeBegin name kind
    pub place : place_of tables name ≡ Some at

  pub of_merge : (at : ℕ) (kind : MergeKind) (st : Statement) → IsTask tables st (tasks.MergeBegin at kind) → OfMerge at kind st
  of_merge at kind (statements.MergeBegin name k) h = record { name = name; is = ap (statements.MergeBegin name) (sym h.1); place = h.0 }
  of_merge at kind _ h = absurd h

  pub record OfShape (at : ℕ) (st : Statement) : Type 0 where
    pub name : List ℕ
    pub is : st ≡ statements.Shape name
    pub place : place_of tables name ≡ Some at

  pub of_shape : (at : ℕ) (st : Statement) → IsTask tables st (tasks.Shape at) → OfShape at st
  of_shape at (statements.Shape name) h = record { name = name; is = refl; place = h }
  of_shape at _ h = absurd h
