use Rattle.std.proofs.Common.{◌≡◌, drop}
use Rattle.ut_resort.specs.Sorting.{codes_cmp, lists_now}
use Rattle.ut_resort.proofs.rows.compare_codes.Given as goal

abbrev pub invariant-loop-codes : goal.invariant-loop-codes
invariant-loop-codes l = codes_cmp (lists_now l.lists) l.a l.b ≡ codes_cmp (drop l.codes-index (lists_now l.lists)) l.a l.b
