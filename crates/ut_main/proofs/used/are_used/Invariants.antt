use Rattle.std.proofs.Common.{◌≡◌, ◌+◌, ◌<◌, ℕ, true, nat_eq}
use Rattle.std.specs.List.{list_any}
use Rattle.ut_main.proofs.used.are_used.Given as goal

abbrev pub invariant-loop-i : goal.invariant-loop-i
invariant-loop-i l = (k : ℕ) → k < l.i → list_any (nat_eq (l.start + k)) l.codes.codes ≡ true
