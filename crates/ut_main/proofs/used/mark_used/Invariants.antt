use Rattle.std.proofs.Common.{◌≡◌, ◌+◌, ◌<◌, ℕ, length, take, get_or, false, nat_eq}
use Rattle.std.specs.List.{list_any}
use Rattle.ut_main.proofs.used.mark_used.Given as goal

abbrev pub invariant-loop-i : goal.invariant-loop-i
invariant-loop-i l =
    (length l.marks.items ≡ l.count)
    × ((k : ℕ) → k < l.count → get_or l.marks.items k false ≡ list_any (nat_eq (l.start + k)) (take l.i l.codes.codes))
