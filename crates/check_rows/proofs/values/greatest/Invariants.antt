use Rattle.std.proofs.Common.{◌≡◌, drop, Some}
use Rattle.std.specs.Ordering.{is_gt}
use Rattle.ut_plain.specs.Query.{best, best_from}
use Rattle.check_rows.proofs.values.greatest.Given as goal

-- the best so far, and then of those that are left
abbrev pub invariant-loop-value : goal.invariant-loop-value
invariant-loop-value l = Some (best_from is_gt l.best (drop l.value-index l.rest)) ≡ best is_gt l.fn.values
