-- The rows of all tables in their places, and in which place the present row of each id stands.
use Rattle.std.specs.Prelude.{ℕ, ◌≡◌, ◌≢◌, ◌≤◌, ◌⊎◌, false, List, map, Option, None, Some, nat_eq}
use Rattle.std.specs.Option.{option_map}
use Rattle.std.specs.HashMap.{HashMap, get}
use Rattle.std.specs.FinMap as finmap
use Rattle.ut_plain.specs.declared.table.Table.{Table}
use Rattle.ut_plain.specs.declared.table.Stored.{Stored}
use Rattle.ut_plain.specs.Rows.{Rows}
use Rattle.ut_plain.specs.Stages.{Stages}
use Rattle.ut_stamps.specs.declared.place.Place.{Place}
use Rattle.ut_exact.specs.Places.{StagedRow, is_dead}
use Rattle.ut_staged.specs.Staged.{Staged, count_of, stages_of}
use Rattle.ut_staged.specs.Tables.{place_at}
use Rattle.ut_restart.specs.declared.rows.Position.{Position}
use Rattle.ut_restart.specs.Shown.{stamp_of}
use Rattle.ut_restart.specs.Standing.{staged_at}

-- where the present row of each id stands
abbrev pub Positions : Type 0
Positions = ℕ → Option Position

-- the positions that a map has
abbrev pub position_in : {S : Type 0} → HashMap ℕ Position S → Positions
position_in m id = get nat_eq m id

-- a place of table n
abbrev pub position : ℕ → Place → Position
position n p = record { table = n; place = p }

-- one id has this position, the others have theirs
pub record IsSet (old new : Positions) (id : ℕ) (at : Option Position) : Type 0 where
  pub here : new id ≡ at
  pub others : (q : ℕ) → q ≢ id → new q ≡ old q

-- one place holds this row, the others hold what they held
pub record Changed (old new : List Staged) (n : ℕ) (p : Place) (row : StagedRow) : Type 0 where
  pub here : place_at new n p ≡ Some row
  pub others : (m : ℕ) (q : Place) → ((m ≡ n) × (q ≡ p)) ⊎ (place_at new m q ≡ place_at old m q)

-- The tables have their stages, of which none is being merged; each row that is somebody's has its position, and no id has another.
pub record IsSound (tables : List Table) (staged : List Staged) (positions : Positions) (load : ℕ) : Type 0 where
  pub columns : map (λ (s : Staged). s.columns) staged ≡ map (λ (t : Table). t.columns) tables
  pub merges : map (λ (s : Staged). s.merge) staged ≡ map (λ (t : Table). None) tables
  pub live : (n : ℕ) (p : Place) (row : StagedRow) → place_at staged n p ≡ Some row → is_dead row.stamp ≡ false
      → positions row.id ≡ Some (position n p)
  pub there : (id n : ℕ) (p : Place) → positions id ≡ Some (position n p)
      → (row : StagedRow) × (place_at staged n p ≡ Some row) × (row.stamp ≡ stamp_of false) × (row.id ≡ id)
  pub few : (n : ℕ) → count_of (staged_at staged n) ≤ load
  pub within : load ≤ 2147483648

-- ---- as the plain store has them

-- a row of table n, as the plain store has it
abbrev pub stored_of : ℕ → StagedRow → Stored
stored_of n row = record { table = n; values = row.values }

-- the row in a position
abbrev pub row_at : List Staged → Option Position → Option Stored
row_at staged None = None
row_at staged (Some at) = option_map (stored_of at.table) (place_at staged at.table at.place)

-- these are the rows and the stages of the plain store
pub record Keeps (staged : List Staged) (positions : Positions) (rows : Rows) (stages : Stages) : Type 0 where
  pub row : (id : ℕ) → finmap.get rows id ≡ row_at staged (positions id)
  pub stages_are : stages ≡ map stages_of staged
