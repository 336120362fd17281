use Rattle.std.proofs.Common.{◌≡◌, ℕ, ◌+◌, ◌*◌, ◌<◌, ◌≤◌, get_or, length}
use Rattle.ut_resort.proofs.packing.widen.Given as goal

abbrev pub invariant-loop-i : goal.invariant-loop-i
invariant-loop-i l =
    (length l.keys ≡ length l.fn.keys) × ((j : ℕ) → j < l.i → get_or l.keys j 0 ≡ get_or l.fn.keys j 0 * l.radix + get_or l.codes j 0)
    × ((j : ℕ) → l.i ≤ j → get_or l.keys j 0 ≡ get_or l.fn.keys j 0)
