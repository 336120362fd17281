-- What is captured of stages follows from the ids of the rows that are there.
use Rattle.std.proofs.Common.{◌≡◌, ℕ, ◌++◌, [], ◌&&◌, not, List, map, None, ◌∙◌}
use Rattle.std.specs.List.{filter}
use Rattle.std.specs.Option.{unwrap_or}
use Rattle.ut_plain.specs.declared.stage.TableStages.{TableStages}
use Rattle.ut_plain.specs.Rows.{Rows}
use Rattle.ut_plain.specs.State.{State}
use Rattle.ut_plain.specs.Capture.{is_live, captured_place, captured_table, capture}
use Rattle.check_stages.specs.There.{AreThere, is_live_by, place_by, table_by}

live_same : (ids : List ℕ) (rows : Rows) → AreThere ids rows → is_live_by ids ≡ is_live rows
live_same ids rows h = λ i place. not place.dead && h place.id i

place_same : (ids : List ℕ) (rows : Rows) → AreThere ids rows → place_by ids ≡ captured_place rows
place_same ids rows h = λ i place. record place { dead = not (live_same ids rows h i place) }

table_same : (ids : List ℕ) (rows : Rows) → AreThere ids rows → table_by ids ≡ captured_table rows
table_same ids rows h = λ i t. record {
  l1 = filter (live_same ids rows h i) t.l1;
  l2 = filter (live_same ids rows h i) (unwrap_or t.closed []) ++ filter (live_same ids rows h i) t.l2;
  closed = None;
  parts = map (map (place_same ids rows h i)) t.parts;
  keep = [];
}

pub captured_is : (ids : List ℕ) (s : State) (stages image : List TableStages) → AreThere ids s.rows → image ≡ map (table_by ids) stages → image ≡ (capture s stages).stages
captured_is ids s stages image h e = e ∙ (λ i. map (table_same ids s.rows h i) stages)
