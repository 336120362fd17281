use Rattle.std.proofs.Common.{◌≡◌, ◌++◌, drop}
use Rattle.std.specs.List.{filter_map}
use Rattle.ut_plain.specs.Condition.{value_in}
use Rattle.check_rows.proofs.query.picked_by.Given as goal

-- those so far and those that are left are all
abbrev pub invariant-loop-name : goal.invariant-loop-name
invariant-loop-name l = l.values ++ filter_map (value_in l.columns l.row) (drop l.name-index l.names) ≡ filter_map (value_in l.columns l.row) l.names
