-- The facts that a running store keeps, and those with which it begins.
use Rattle.std.specs.Prelude.{ℕ, suc, zero, Bool, true, false, List}
use Rattle.ut_value.specs.declared.entry.Entry.{Entry}
use Rattle.ut_plain.specs.declared.statement.Statement.{Statement}
use Rattle.ut_plain.specs.declared.statement.Statement.TheVariants as statements
use Rattle.ut_plain.specs.State.{State}
use Rattle.ut_plain.specs.Stages.{Stages}
use Rattle.ut_plain.specs.Capture.{Directory}
use Rattle.ut_plain.specs.Plain.{Plain, opened_store}
use Rattle.ut_plain.specs.Reached.{MayOpen}
use Rattle.ut_store.specs.Held.{Held}
use Rattle.ut_store.specs.Stands.{StandsFor}

-- The store agrees with some plain state.
pub record Stands (e : Held) : Type 0 where
  pub plain : Plain
  pub stands : StandsFor e plain

-- whether a statement is one of the store, which no session has
abbrev pub is_of_store : Statement → Bool
is_of_store (statements.MergeL1 name n) = true
is_of_store (statements.MergeBegin name kind) = true
is_of_store statements.MergeEnd = true
is_of_store statements.SaveBegin = true
is_of_store (statements.SaveStep n) = true
is_of_store statements.SaveSeal = true
is_of_store statements.SaveFlip = true
is_of_store statements.SaveDrop = true
is_of_store (statements.Shape name) = true
is_of_store _ = false

-- whether a statement changes rows
abbrev pub changes_rows : Statement → Bool
changes_rows (statements.Insert name values) = true
changes_rows (statements.Bulk name values) = true
changes_rows (statements.Update name column value preds) = true
changes_rows (statements.Delete name preds) = true
changes_rows _ = false

-- whether a statement finds rows by comparisons, for which its names are resolved
abbrev pub finds_rows : Statement → Bool
finds_rows (statements.Ask query) = true
finds_rows (statements.Update name column value preds) = true
finds_rows (statements.Delete name preds) = true
finds_rows _ = false

-- session 0 has the statements of the store alone
abbrev pub suits_session : ℕ → Statement → Bool
suits_session zero st = is_of_store st
suits_session (suc session) st = true

-- A journal that begins with this state, opened with the stages of an image.
pub record Reopened (s : State) (stages : Stages) (entries : List Entry) (rows_limit : ℕ) (e : Held) : Type 0 where
  pub may : MayOpen stages (record { base = s; entries = entries })
  -- however many pages an image takes, and the selected root reaches
  pub stands : (image_pages : Directory → ℕ) (root_pages : ℕ)
      → StandsFor e (opened_store (record { stages = stages; image_pages = image_pages; root_pages = root_pages })
      (record { base = s; entries = entries }) rows_limit)
