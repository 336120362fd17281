-- What a savepoint captures of stages, where the rows that are there are told by a list of ids.
use Rattle.std.specs.Prelude.{◌≡◌, ℕ, ◌++◌, [], Bool, ◌&&◌, not, nat_eq, List, map, None}
use Rattle.std.specs.List.{filter, list_any}
use Rattle.std.specs.Option.{unwrap_or, is_some}
use Rattle.std.specs.FinMap as finmap
use Rattle.ut_plain.specs.declared.stage.Placed.{Placed}
use Rattle.ut_plain.specs.declared.stage.TableStages.{TableStages}
use Rattle.ut_plain.specs.Rows.{Rows}

-- these are the ids of the rows that are there
abbrev pub AreThere : List ℕ → Rows → Type 0
AreThere ids rows = (id : ℕ) → list_any (nat_eq id) ids ≡ is_some (finmap.get rows id)

-- whether a place is live where the rows of these ids are there
abbrev pub is_live_by : List ℕ → Placed → Bool
is_live_by ids place = not place.dead && list_any (nat_eq place.id) ids

-- a place of a part is dead where it isn't live
abbrev pub place_by : List ℕ → Placed → Placed
place_by ids place = record place { dead = not (is_live_by ids place) }

-- what is captured of a table
abbrev pub table_by : List ℕ → TableStages → TableStages
table_by ids t = record {
  l1 = filter (is_live_by ids) t.l1;
  l2 = filter (is_live_by ids) (unwrap_or t.closed []) ++ filter (is_live_by ids) t.l2;
  closed = None;
  parts = map (map (place_by ids)) t.parts;
  keep = [];
}
