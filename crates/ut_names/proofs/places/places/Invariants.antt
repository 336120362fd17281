use Rattle.std.proofs.Common.{◌≡◌, true, take}
use Rattle.std.specs.List.{filter_map, list_all}
use Rattle.ut_value.specs.Spelling.{has_column}
use Rattle.ut_plain.specs.Tables.{column_of}
use Rattle.ut_names.proofs.places.places.Given as goal

-- the places so far are those of the names so far
abbrev pub invariant-loop-name : goal.invariant-loop-name
invariant-loop-name l = (l.list.items ≡ filter_map (column_of l.columns) (take l.name-index l.names)) × (list_all (has_column l.columns) (take l.name-index l.names) ≡ true)
