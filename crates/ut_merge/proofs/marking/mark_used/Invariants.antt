use Rattle.std.proofs.Common.{◌≡◌, ◌+◌, ◌<◌, ℕ, length, take, get_or, false, nat_eq}
use Rattle.std.specs.List.{list_any}
use Rattle.ut_merge.proofs.marking.mark_used.Given as goal

abbrev pub invariant-loop-code : goal.invariant-loop-code
invariant-loop-code l =
    (length l.marks.items ≡ l.count)
    × ((k : ℕ) → k < l.count → get_or l.marks.items k false ≡ list_any (nat_eq (l.first + k)) (take l.code-index l.codes))
