use Rattle.std.proofs.Common.{◌≡◌, drop}
use Rattle.std.specs.Ordering.{is_lt}
use Rattle.ut_plain.specs.Merges.{in_order, column_order, place_cmp}
use Rattle.check_stages.proofs.sorted.resorted.Given as goal

abbrev pub invariant-loop-at : goal.invariant-loop-at
invariant-loop-at l = l.sorted.items ≡ in_order (λ a b. is_lt (place_cmp (column_order l.places) a b)) (drop l.at l.places)
