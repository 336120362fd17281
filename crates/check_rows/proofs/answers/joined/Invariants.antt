use Rattle.std.proofs.Common.{◌≡◌, ◌++◌, drop}
use Rattle.ut_plain.specs.Query.{joined}
use Rattle.check_rows.proofs.answers.joined.Given as goal

-- those so far and those that are left are all
abbrev pub invariant-loop-row : goal.invariant-loop-row
invariant-loop-row l = l.tuples ++ joined l.left l.c (drop l.row-index l.lefts) l.right l.d l.rights ≡ joined l.left l.c l.lefts l.right l.d l.rights
