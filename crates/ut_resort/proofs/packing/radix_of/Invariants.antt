use Rattle.std.proofs.Common.{ℕ, ◌<◌, ◌≤◌, ◌^◌, get_or}
use Rattle.ut_resort.proofs.packing.radix_of.Given as goal

abbrev pub invariant-loop-code : goal.invariant-loop-code
invariant-loop-code l = (0 < l.radix) × (l.radix ≤ 2 ^ 32) × ((i : ℕ) → i < l.code-index → get_or l.codes i 0 < l.radix)
