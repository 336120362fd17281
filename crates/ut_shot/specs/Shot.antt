-- What a shot holds, and what it tells.
use Rattle.std.specs.Prelude.{ℕ, ◌≡◌, List, None}
use Rattle.std.specs.FinMap as finmap
use Rattle.ut_plain.specs.declared.table.Table.{Table}
use Rattle.ut_plain.specs.declared.table.Stored.{Stored}
use Rattle.ut_plain.specs.declared.statement.Query.{Query}
use Rattle.ut_plain.specs.State.{State}
use Rattle.ut_stamps.specs.declared.fates.Fate.{Fate}
use Rattle.ut_staged.specs.Staged.{Staged}
use Rattle.ut_look.specs.Look.{Sight}
use Rattle.ut_query.specs.Look.{Sees}
use Rattle.ut_shot.specs.Reads.{read_rows}

-- its tables with their stages, and what became of each transaction
pub record ShotValue : Type 0 where
  pub tables : List Table
  pub staged : List Staged
  pub fates : List Fate

-- it is looked at as by one who has no transaction, before any entry
abbrev pub shot_sight : ShotValue → Sight
shot_sight s = record { tables = s.tables; staged = s.staged; fates = s.fates; snapshot = 0; own = None }

-- The shot was taken for a question over these tables and rows, and shows those of the rows that the question reads.
pub record IsShot (query : Query) (tables : List Table) (rows : List (ℕ × Stored)) (s : ShotValue) : Type 0 where
  pub heads : s.tables ≡ tables
  pub sees : Sees (shot_sight s) (read_rows tables query rows)

-- The same of the state of a journal.
abbrev pub IsShotOf : Query → State → ShotValue → Type 0
IsShotOf query s shot = IsShot query s.tables (finmap.entries s.rows) shot
