use Rattle.std.proofs.Common.{◌≡◌, ◌++◌, drop, map}
use Rattle.std.specs.List.{filter}
use Rattle.ut_plain.specs.Condition.{value_in}
use Rattle.ut_plain.specs.Query.{same_value}
use Rattle.check_rows.proofs.answers.pairs_of.Given as goal

-- those so far and those that are left are all
abbrev pub invariant-loop-other : goal.invariant-loop-other
invariant-loop-other l = l.tuples ++ map (λ r. l.row ++ r.1.values) (filter (λ r. same_value (value_in l.left l.row l.c) (value_in l.right r.1.values l.d)) (drop l.other-index l.rights)) ≡ map (λ r. l.row ++ r.1.values) (filter (λ r. same_value (value_in l.left l.row l.c) (value_in l.right r.1.values l.d)) l.rights)
