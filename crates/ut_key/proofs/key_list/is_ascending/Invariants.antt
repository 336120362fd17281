use Rattle.std.proofs.Common.{◌≡◌, ◌<◌, ℕ, get_or, []}
use Rattle.std.specs.declared.cmp.Ordering.TheVariants.{Less}
use Rattle.ut_key.specs.Keys.{key_cmp}
use Rattle.ut_key.proofs.key_list.is_ascending.Given as goal

abbrev pub invariant-loop-i : goal.invariant-loop-i
invariant-loop-i l = (p q : ℕ) → p < q → q < l.i → key_cmp (get_or l.keys p []) (get_or l.keys q []) ≡ Less
