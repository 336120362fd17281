use Rattle.std.proofs.Common.{◌≡◌, ◌*◌, ◌≤◌, ◌<◌, ℕ, length, get_or, drop}
use Rattle.ut_bits.specs.Words.{word_in}
use Rattle.ut_main.proofs.ids.read_ids.Given as goal

abbrev pub invariant-loop-i : goal.invariant-loop-i
invariant-loop-i l =
    (length l.ids.items ≡ l.i)
    × ((k : ℕ) → k < l.i → (get_or l.ids.items k 0 ≡ word_in (drop (k * 4) l.bytes)) × (1 ≤ get_or l.ids.items k 0) × (get_or l.ids.items k 0 ≤ 2147483648))
