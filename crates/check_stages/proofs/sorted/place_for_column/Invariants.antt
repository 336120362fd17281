use Rattle.std.proofs.Common.{◌≡◌, ◌++◌, take, drop}
use Rattle.ut_plain.specs.Merges.{put, comes_first}
use Rattle.check_stages.proofs.sorted.place_for_column.Given as goal

-- the columns so far are before it
abbrev pub invariant-loop-at : goal.invariant-loop-at
invariant-loop-at l = put (comes_first l.places) l.column l.order ≡ take l.at l.order ++ put (comes_first l.places) l.column (drop l.at l.order)
