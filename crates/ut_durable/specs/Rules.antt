-- Which directories an image may have: their tables, the rows in them, and these rows' ids.
use Rattle.std.specs.Prelude.{ℕ, ◌≡◌, ◌≤◌, ◌<◌, ◌^◌, false, not, List, ◌++◌, length, IsTrue}
use Rattle.std.specs.List.{filter, flat_map, list_all, AllByRecursion, AllZip}
use Rattle.ut_value.specs.declared.value.Column.{Column}
use Rattle.ut_plain.specs.declared.table.Table.{Table}
use Rattle.ut_plain.specs.declared.stage.Placed.{Placed}
use Rattle.ut_plain.specs.declared.stage.TableStages.{TableStages}
use Rattle.ut_plain.specs.Stages.{Stages}
use Rattle.ut_plain.specs.State.{is_table}
use Rattle.ut_plain.specs.Tables.{tables_differ}
use Rattle.ut_plain.specs.Reached.{IsMain, IsAtRest}
use Rattle.ut_plain.specs.Capture.{Directory, ids}
use Rattle.ut_image.specs.Rules.{are_cells, AreOwnIds}

-- ---- the ids of rows

-- those of the rows in a table's deltas
abbrev pub delta_ids : TableStages → List ℕ
delta_ids s = ids s.l2 ++ ids s.l1

-- those of a part's live rows
abbrev pub live_ids : List Placed → List ℕ
live_ids part = ids (filter (λ (p : Placed). not p.dead) part)

-- those of the live rows in a table's parts
abbrev pub part_ids : TableStages → List ℕ
part_ids s = flat_map live_ids s.parts

-- those of all rows of an image: of the deltas, and then of the parts
abbrev pub image_ids : Stages → List ℕ
image_ids stages = flat_map delta_ids stages ++ flat_map part_ids stages

-- ---- rows

-- a row, dead or live: it has an id, and a value of its column's kind in each column
pub record IsImageRow (columns : List Column) (p : Placed) : Type 0 where
  pub id : (1 ≤ p.id) × (p.id ≤ 2147483648)
  pub values : IsTrue (are_cells columns p.values)

-- the rows of a delta, which are all live
pub record IsDelta (columns : List Column) (places : List Placed) : Type 0 where
  pub few : length places < 2 ^ 32
  pub rows : AllByRecursion (IsImageRow columns) places
  pub live : AllByRecursion (λ (p : Placed). p.dead ≡ false) places

-- the stages of a table: two deltas and up to eight parts, of which nothing is being merged
pub record IsImageTable (columns : List Column) (s : TableStages) : Type 0 where
  pub rest : IsAtRest s
  pub main : IsMain s
  pub l2 : IsDelta columns s.l2
  pub l1 : IsDelta columns s.l1
  pub parts : AllByRecursion (AllByRecursion (IsImageRow columns)) s.parts

-- ---- directories

-- An image may have this directory where the next row id is `next` and there were so many commits:
-- no table is made without a commit, no two have one name,
-- and no two of its rows have one id.
pub record IsDirectory (next commits : ℕ) (d : Directory) : Type 0 where
  pub few : length d.tables ≤ 256
  pub begun : length d.tables ≤ commits
  pub tables : IsTrue (list_all is_table d.tables)
  pub names : IsTrue (tables_differ d.tables)
  pub stages : AllZip (λ (t : Table) (s : TableStages). IsImageTable t.columns s) d.tables d.stages
  pub ids : AreOwnIds next (image_ids d.stages)
