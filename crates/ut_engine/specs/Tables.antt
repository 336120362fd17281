-- What is read of a store's tables and their stages, in its own lists and in any plain state that it stands for.
use Rattle.std.specs.Prelude.{ℕ, ◌≡◌, List, length, Option, Some, slice_get}
use Rattle.std.specs.Option.{option_map}
use Rattle.ut_plain.specs.declared.table.Table.{Table}
use Rattle.ut_plain.specs.Journal.{current}
use Rattle.ut_plain.specs.Plain.{Plain}
use Rattle.ut_plain.specs.Stages.{stages_at}
use Rattle.ut_staged.specs.Staged.{Staged}
use Rattle.ut_store.specs.Held.{Held}
use Rattle.ut_store.specs.Stands.{StandsFor}

-- how many tables there are
pub record IsTableCount (e : Held) (count : ℕ) : Type 0 where
  pub held : count ≡ length e.rows.tables
  pub plain : (p : Plain) → StandsFor e p → count ≡ length (current p.journal).tables

-- the name of the table at a place, in order of creation
abbrev pub name_at : List Table → ℕ → Option (List ℕ)
name_at tables place = option_map (λ (t : Table). t.name) (slice_get tables place)

-- the table at a place has this name
pub record IsTableName (e : Held) (place : ℕ) (name : List ℕ) : Type 0 where
  pub held : name_at e.rows.tables place ≡ Some name
  pub plain : (p : Plain) → StandsFor e p → name_at (current p.journal).tables place ≡ Some name

-- how many rows stand in the first stage of the table at a place, those that nobody sees included
pub record IsL1Length (e : Held) (place rows : ℕ) : Type 0 where
  pub held : option_map (λ (s : Staged). length s.l1) (slice_get e.rows.staged place) ≡ Some rows
  pub plain : (p : Plain) → StandsFor e p → rows ≡ length (stages_at p.stages place).l1

-- and in its second
pub record IsL2Length (e : Held) (place rows : ℕ) : Type 0 where
  pub held : option_map (λ (s : Staged). length s.l2) (slice_get e.rows.staged place) ≡ Some rows
  pub plain : (p : Plain) → StandsFor e p → rows ≡ length (stages_at p.stages place).l2
