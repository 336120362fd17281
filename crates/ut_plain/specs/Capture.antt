-- The image that a savepoint captures: the tables, and in which stages their rows stand.
use Rattle.std.specs.Prelude.{ℕ, ◌≡◌, ◌≢◌, ◌⊎◌, Bool, true, false, ◌&&◌, not, List, [], ◌∷◌, ◌++◌, map, Contains, None, Some, is_some}
use Rattle.std.specs.List.{filter, AllByRecursion}
use Rattle.std.specs.Option.{unwrap_or}
use Rattle.std.specs.FinMap as finmap
use Rattle.ut_plain.specs.declared.table.Table.{Table}
use Rattle.ut_plain.specs.declared.table.Stored.{Stored}
use Rattle.ut_plain.specs.declared.stage.Placed.{Placed}
use Rattle.ut_plain.specs.declared.stage.TableStages.{TableStages}
use Rattle.ut_plain.specs.Rows.{Rows}
use Rattle.ut_plain.specs.State.{State}
use Rattle.ut_plain.specs.Stages.{Stages, stages_at}

-- the directory of an image as plain data
pub record Directory : Type 0 where
  pub tables : List Table
  -- nothing is closed, and a place of a part that isn't live is dead
  pub stages : Stages

-- ---- what is captured

-- whether a place is not dead and holds a row of these
abbrev pub is_live : Rows → Placed → Bool
is_live rows place = not place.dead && is_some (finmap.get rows place.id)

-- a place of a part keeps its row, and is dead where it isn't live
abbrev pub captured_place : Rows → Placed → Placed
captured_place rows place = record place { dead = not (is_live rows place) }

-- of other stages the live places alone are kept
abbrev pub captured_rows : Rows → List Placed → List Placed
captured_rows rows places = filter (is_live rows) places

-- L2 takes the rows of a closed stage first, and then its own
abbrev pub captured_table : Rows → TableStages → TableStages
captured_table rows t = record {
  l1 = captured_rows rows t.l1;
  l2 = captured_rows rows (unwrap_or t.closed []) ++ captured_rows rows t.l2;
  closed = None;
  parts = map (map (captured_place rows)) t.parts;
  keep = [];
}

-- the directory of the stages, where the journal's state is this
abbrev pub capture : State → Stages → Directory
capture s stages = record { tables = s.tables; stages = map (captured_table s.rows) stages }

-- ---- which rows it has

-- a place stands in a stage of a table
abbrev pub StandsInTable : TableStages → Placed → Type 0
StandsInTable t p = Contains t.l1 p ⊎ Contains t.l2 p ⊎ ((part : List Placed) × Contains t.parts part × Contains part p)

-- of the table at this place
abbrev pub StandsAt : Stages → ℕ → Placed → Type 0
StandsAt stages n p = StandsInTable (stages_at stages n) p

-- the row of a table in a place
abbrev pub row_of : ℕ → Placed → Stored
row_of n p = record { table = n; values = p.values }

-- each live place holds the row of its id, and each row has a live place
pub record AreRowsOf (stages : Stages) (rows : Rows) : Type 0 where
  pub each : (n : ℕ) (p : Placed) → StandsAt stages n p → p.dead ≡ false → finmap.get rows p.id ≡ Some (row_of n p)
  pub only : (id : ℕ) (row : Stored) → finmap.get rows id ≡ Some row
      → (n : ℕ) × (p : Placed) × StandsAt stages n p × (p.dead ≡ false) × (p.id ≡ id) × (row_of n p ≡ row)

-- ---- of the stages that are captured

-- a place stands in a stage of a table, the closed one included
abbrev pub StandsAnywhere : TableStages → Placed → Type 0
StandsAnywhere t p =
    Contains t.l1 p ⊎ Contains t.l2 p ⊎ Contains (unwrap_or t.closed []) p
    ⊎ ((part : List Placed) × Contains t.parts part × Contains part p)

-- a live place holds the row of its id, and each row has one
pub record AreHeldBy (stages : Stages) (rows : Rows) : Type 0 where
  pub each : (n : ℕ) (p : Placed) → StandsAnywhere (stages_at stages n) p → is_live rows p ≡ true → finmap.get rows p.id ≡ Some (row_of n p)
  pub only : (id : ℕ) (row : Stored) → finmap.get rows id ≡ Some row
      → (n : ℕ) × (p : Placed) × StandsAnywhere (stages_at stages n) p × (is_live rows p ≡ true) × (p.id ≡ id) × (row_of n p ≡ row)

-- ---- of the rows that stand in no part

-- the ids of the rows in these places
abbrev pub ids : List Placed → List ℕ
ids places = map (λ (p : Placed). p.id) places

-- the ids of the rows in the first and second stages of all tables
abbrev pub ids_of : Stages → List ℕ
ids_of [] = []
ids_of (t ∷ ts) = ids t.l1 ++ (ids t.l2 ++ ids_of ts)

-- no two of these are the same
abbrev pub AreDistinct : List ℕ → Type 0
AreDistinct [] = Unit {0}
AreDistinct (id ∷ ids) = AllByRecursion (λ (other : ℕ). other ≢ id) ids × AreDistinct ids
