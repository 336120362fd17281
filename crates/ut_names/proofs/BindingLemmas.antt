-- When a statement is bound: it names what is there, its values are of their kinds, and it is by places what it was by names.
use Rattle.std.proofs.Common.{ℕ, ◌≡◌, List, Some, is_some, refl, ap}
use Rattle.ut_value.specs.declared.value.Value.{Value}
use Rattle.ut_value.specs.declared.entry.MergeKind.{MergeKind}
use Rattle.ut_plain.specs.declared.table.Table.{Table}
use Rattle.ut_plain.specs.declared.statement.Pred.{Pred}
use Rattle.ut_plain.specs.declared.statement.Statement.TheVariants as statements
use Rattle.ut_plain.specs.Tables.{place_of}
use Rattle.ut_names.specs.declared.resolved.Selection.{Selection}
use Rattle.ut_names.specs.declared.resolved.Target.{Target}
use Rattle.ut_names.specs.declared.bound.Bound.TheVariants.{Task}
use Rattle.ut_names.specs.declared.bound.Task.TheVariants as tasks
use Rattle.ut_names.specs.Resolved.{IsSelection, IsTarget}
use Rattle.ut_names.specs.Binding.{Binds}
use Rattle.ut_names.proofs.ResolvedLemmas.{selection_known}

pub binds_update : (tables : List Table) (name column : List ℕ) (value : Value) (preds : List Pred) (target : Target) → IsTarget tables name column value preds target
    → Binds tables (statements.Update name column value preds) (Task (tasks.Update target value))
binds_update tables name column value preds target t = record { known = t.known; fits = t.fits; is = (t, refl) }

pub binds_delete : (tables : List Table) (name : List ℕ) (preds : List Pred) (rows : Selection) → IsSelection tables name preds rows
    → Binds tables (statements.Delete name preds) (Task (tasks.Delete rows))
binds_delete tables name preds rows s = record { known = selection_known tables name preds rows s; fits = s.preds.fit; is = s }

pub binds_merge_l1 : (tables : List Table) (name : List ℕ) (n at : ℕ) → place_of tables name ≡ Some at → Binds tables (statements.MergeL1 name n) (Task (tasks.MergeL1 at n))
binds_merge_l1 tables name n at is = record { known = ap is_some is; fits = refl; is = (is, refl) }

pub binds_merge : (tables : List Table) (name : List ℕ) (kind : MergeKind) (at : ℕ) → place_of tables name ≡ Some at → Binds tables (statements.MergeBegin name kind) (Task (tasks.MergeBegin at kind))
binds_merge tables name kind at is = record { known = ap is_some is; fits = refl; is = (is, refl) }

pub binds_shape : (tables : List Table) (name : List ℕ) (at : ℕ) → place_of tables name ≡ Some at → Binds tables (statements.Shape name) (Task (tasks.Shape at))
binds_shape tables name at is = record { known = ap is_some is; fits = refl; is = is }
