use Rattle.std.proofs.Common.{◌≡◌, ℕ, ◌<◌, ◌≤◌, ◌^◌, get_or, length, take}
use Rattle.ut_resort.specs.Sorting.{lists_now, ArePacked}
use Rattle.ut_resort.proofs.packing.pack.Given as goal

abbrev pub invariant-loop-i : goal.invariant-loop-i
invariant-loop-i l =
    (l.i ≤ l.i-end) × (length l.keys ≡ length l.fn.keys) × ((j : ℕ) → get_or l.keys j 0 < l.limit) × (l.limit < 2 ^ 64) × ArePacked (take l.i (lists_now l.lists)) l.keys
