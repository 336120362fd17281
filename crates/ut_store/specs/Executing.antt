-- When the store may be asked to execute a task, and what it promises then.
use Rattle.std.specs.Prelude.{ℕ, ◌≡◌, ◌<◌, List, Some, IsTrue}
use Rattle.ut_plain.specs.declared.table.Table.{Table}
use Rattle.ut_plain.specs.declared.statement.Statement.{Statement}
use Rattle.ut_plain.specs.Spelled.{is_spelled}
use Rattle.ut_merge.specs.Jobs.{JobValue}
use Rattle.ut_names.specs.declared.bound.Bound.TheVariants as bounds
use Rattle.ut_names.specs.declared.bound.Task.{Task}
use Rattle.ut_names.specs.Binding.{Binds}
use Rattle.ut_store.specs.declared.outcome.Outcome.{Outcome}
use Rattle.ut_store.specs.declared.outcome.Outcome.TheVariants.{Merging}
use Rattle.ut_store.specs.Held.{Held}
use Rattle.ut_store.specs.Standing.{Stands, suits_session}
use Rattle.ut_store.specs.Answers.{Answers}
use Rattle.ut_store.specs.Jobs.{pending_job}
use Rattle.ut_store.specs.Outcomes.{response_of}

-- A statement that its session may make, and a line can spell, is bound to this task.
pub record IsAskedBy (tables : List Table) (session : ℕ) (task : Task) (st : Statement) : Type 0 where
  pub binds : Binds tables st (bounds.Task task)
  pub suits : IsTrue (suits_session session st)
  pub spelled : IsTrue (is_spelled st)

-- The store may be asked to execute this.
pub record MayExecute (e : Held) (session : ℕ) (task : Task) : Type 0 where
  pub seat : session < 17
  pub stands : Stands e
  pub st : Statement
  pub asked : IsAskedBy e.rows.tables session task st

-- Whichever statement was bound to the task, this is its answer, and the store stands for the plain state behind it. Where a merge
-- began, its job is that of the store.
pub record Executes (old : Held) (session : ℕ) (task : Task) (outcome : Outcome) (new : Held) : Type 0 where
  pub each : (st : Statement) → IsAskedBy old.rows.tables session task st → Answers old session st (response_of outcome) new
  pub job : (job : JobValue) → outcome ≡ Merging job → pending_job new ≡ Some job

-- The same of each session, for a task that is not of one.
abbrev pub ExecutesFor : Held → Task → Outcome → Held → Type 0
ExecutesFor old task outcome new = (session : ℕ) → session < 17 → Executes old session task outcome new
