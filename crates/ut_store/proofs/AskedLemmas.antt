-- What a task says of the statements that are bound to it.
use Rattle.std.proofs.Common.{ℕ, ◌<◌, ◌≡◌, List, Option, refl, sym, ap, subst, unwrap_or, IsTrue}
use Rattle.ut_value.specs.declared.value.Value.{Value}
use Rattle.ut_plain.specs.declared.statement.Statement.{Statement}
use Rattle.ut_plain.specs.declared.statement.Statement.TheVariants as statements
use Rattle.ut_plain.specs.Tables.{place_in}
use Rattle.ut_names.specs.declared.bound.Bound.TheVariants as bounds
use Rattle.ut_names.specs.declared.bound.Task.{Task}
use Rattle.ut_names.specs.declared.bound.Task.TheVariants as tasks
use Rattle.ut_names.specs.declared.resolved.Selection.{Selection}
use Rattle.ut_names.specs.declared.resolved.Target.{Target}
use Rattle.ut_names.proofs.TaskLemmas.{of_insert, of_load, of_update, of_delete}
use Rattle.ut_store.specs.Held.{Held}
use Rattle.ut_store.specs.Standing.{Stands, changes_rows}
use Rattle.ut_store.specs.Changes.{MayChange, IsDelete, IsUpdate}
use Rattle.ut_store.specs.Executing.{IsAskedBy}
use Rattle.ut_store.specs.Works.{IsBulk}
use Rattle.ut_store.proofs.WayLemmas.{may_change}

-- an insert of these values into the table at this place
pub record IsInsert (e : Held) (n : ℕ) (values : List Value) (st : Statement) : Type 0 where
  pub name : List ℕ
  pub is : st ≡ statements.Insert name values
  pub at : n ≡ place_in e.rows.tables name

module _ (e : Held) (session : ℕ) (st : Statement) where
  -- a change that is bound may be made
  may_be : (task : Task) (that : Statement) → session < 17 → Stands e → IsAskedBy e.rows.tables session task st → st ≡ that → IsTrue (changes_rows that) → MayChange e session st
  may_be task that small stands a is kind =
      may_change e session st (bounds.Task task) small stands a.binds a.suits a.spelled (subst (λ (x : Statement). IsTrue (changes_rows x)) (sym is) kind)

  pub is_insert : (n : ℕ) (values : List Value) → IsAskedBy e.rows.tables session (tasks.Insert n values) st → IsInsert e n values st
  is_insert n values a = let o = of_insert e.rows.tables n values st a.binds.is in record { name = o.name; is = o.is; at = sym (ap (λ (x : Option ℕ). unwrap_or x 0) o.at) }

  pub may_insert : (n : ℕ) (values : List Value) → session < 17 → Stands e → IsAskedBy e.rows.tables session (tasks.Insert n values) st → MayChange e session st
  may_insert n values small stands a = let o = is_insert n values a in may_be (tasks.Insert n values) (statements.Insert o.name values) small stands a o.is refl

  pub is_bulk : (n width : ℕ) (values : List Value) → IsAskedBy e.rows.tables session (tasks.Load n width values) st → IsBulk e.rows.tables st n width values
  is_bulk n width values a =
      let o = of_load e.rows.tables n width values st a.binds.is in
      record { name = o.name; is = o.is; at = sym (ap (λ (x : Option ℕ). unwrap_or x 0) o.at); wide = o.wide }

  pub may_load : (n width : ℕ) (values : List Value) → session < 17 → Stands e → IsAskedBy e.rows.tables session (tasks.Load n width values) st → MayChange e session st
  may_load n width values small stands a = let o = is_bulk n width values a in may_be (tasks.Load n width values) (statements.Bulk o.name values) small stands a o.is refl

  pub is_update : (target : Target) (value : Value) → IsAskedBy e.rows.tables session (tasks.Update target value) st → IsUpdate e.rows.tables st target value
  is_update target value a =
      let o = of_update e.rows.tables target value st a.binds.is in record { name = o.name; column = o.column; preds = o.preds; is = o.is; target_is = o.target_is }

  pub may_update : (target : Target) (value : Value) → session < 17 → Stands e → IsAskedBy e.rows.tables session (tasks.Update target value) st → MayChange e session st
  may_update target value small stands a =
      let o = is_update target value a in may_be (tasks.Update target value) (statements.Update o.name o.column value o.preds) small stands a o.is refl

  pub is_delete : (rows : Selection) → IsAskedBy e.rows.tables session (tasks.Delete rows) st → IsDelete e.rows.tables st rows
  is_delete rows a = let o = of_delete e.rows.tables rows st a.binds.is in record { name = o.name; preds = o.preds; is = o.is; rows_are = o.rows_are }

  pub may_delete : (rows : Selection) → session < 17 → Stands e → IsAskedBy e.rows.tables session (tasks.Delete rows) st → MayChange e session st
  may_delete rows small stands a = let o = is_delete rows a in may_be (tasks.Delete rows) (statements.Delete o.name o.preds) small stands a o.is refl
