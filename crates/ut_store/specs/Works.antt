-- What a statement's work is, and when it can be done.
use Rattle.std.specs.Prelude.{ℕ, ◌≡◌, List, length}
use Rattle.ut_value.specs.declared.value.Value.{Value}
use Rattle.ut_plain.specs.declared.table.Table.{Table}
use Rattle.ut_plain.specs.declared.statement.Statement.{Statement}
use Rattle.ut_plain.specs.declared.statement.Statement.TheVariants as statements
use Rattle.ut_plain.specs.Tables.{place_in, columns_in}
use Rattle.ut_plain.specs.Rows.{inserts_of}
use Rattle.ut_merge.specs.Jobs.{JobValue}
use Rattle.ut_tables.specs.declared.work.Work.{Work}
use Rattle.ut_tables.specs.Works.{LoadsWell, ops_in, places_of, worked}
use Rattle.ut_store.specs.declared.outcome.Outcome.{Outcome}
use Rattle.ut_store.specs.declared.outcome.Outcome.TheVariants.{Merging}
use Rattle.ut_store.specs.Held.{Held}
use Rattle.ut_store.specs.Answers.{Answers}
use Rattle.ut_store.specs.Changes.{AreReady, IsWork, MayChange}
use Rattle.ut_store.specs.Outcomes.{response_of}

-- The work suits its table.
pub record IsReady (e : Held) (w : Work) : Type 0 where
  pub suits : AreReady e w.place (places_of w) (ops_in w.changes)
  pub loads : LoadsWell e.rows w
  pub count : w.inserts ≡ inserts_of (ops_in w.changes)

-- A session's statement does this work.
abbrev pub Does : Held → ℕ → Statement → Work → Type 0
Does e session st w = IsWork e session st w.place (places_of w) (ops_in w.changes) w.rows (worked w)

-- Some statement of the session does this work, and nothing early keeps it back.
pub record IsAskedWork (e : Held) (session : ℕ) (w : Work) : Type 0 where
  pub st : Statement
  pub may : MayChange e session st
  pub does : Does e session st w

-- Whichever statement does this work, this is its answer. No merge begins.
pub record AnswersWork (old : Held) (session : ℕ) (w : Work) (outcome : Outcome) (new : Held) : Type 0 where
  pub each : (st : Statement) → MayChange old session st → Does old session st w → Answers old session st (response_of outcome) new
  pub no_merge : (job : JobValue) → outcome ≡ Merging job → ⊥

-- The statement loads rows of so many of these values each into the table at a place.
pub record IsBulk (tables : List Table) (st : Statement) (n width : ℕ) (values : List Value) : Type 0 where
  pub name : List ℕ
  pub is : st ≡ statements.Bulk name values
  pub at : n ≡ place_in tables name
  pub wide : width ≡ length (columns_in tables name)
