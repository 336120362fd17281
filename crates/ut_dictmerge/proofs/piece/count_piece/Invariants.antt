use Rattle.std.proofs.Common.{◌≡◌, ◌+◌, ◌-◌, ◌≤◌, ℕ, List, Bool, length}
use Rattle.ut_recode.specs.Spans.{span}
use Rattle.ut_dictmerge.specs.Merge.{merged}
use Rattle.ut_dictmerge.proofs.piece.count_piece.Given as goal

pub record IsCounted (a : List (List ℕ)) (ua : List Bool) (b : List (List ℕ)) (ub : List Bool) (fa fb ta tb count : ℕ) (i j : ℕ) : Type 0 where
  pub after_a : fa ≤ i
  pub after_b : fb ≤ j
  pub before_a : i ≤ ta
  pub before_b : j ≤ tb
  pub small : count ≤ (i - fa) + (j - fb)
  pub count_is : count + length (merged (span i ta a) (span i ta ua) (span j tb b) (span j tb ub)) ≡ length (merged (span fa ta a) (span fa ta ua) (span fb tb b) (span fb tb ub))

abbrev pub invariant-loop-i : goal.invariant-loop-i
invariant-loop-i l = IsCounted l.a l.used_a l.b l.used_b l.from.a l.from.b l.to_a l.to_b l.count l.i l.j

abbrev pub decreases-loop-i : goal.decreases-loop-i
decreases-loop-i l = (l.to_a - l.i) + (l.to_b - l.j)
