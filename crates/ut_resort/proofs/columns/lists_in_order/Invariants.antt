use Rattle.std.proofs.Common.{◌≡◌, [], map, get_or, take}
use Rattle.ut_resort.specs.Resorted.{codes_of}
use Rattle.ut_resort.specs.Sorting.{lists_now}
use Rattle.ut_resort.proofs.columns.lists_in_order.Given as goal

abbrev pub invariant-loop-column : goal.invariant-loop-column
invariant-loop-column l = lists_now l.lists.items ≡ map (λ column. get_or (codes_of l.columns) column []) (take l.column-index l.column-items)
