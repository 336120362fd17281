use Rattle.std.proofs.Common.{◌≡◌, ℕ, ◌+◌, ◌-◌, map, length}
use Rattle.ut_unsorted.specs.Posted.{places_at, posting_of}
use Rattle.ut_unsorted.proofs.postings.Postings.room.Given as goal

abbrev pub invariant-loop-self : goal.invariant-loop-self
invariant-loop-self l = (c : ℕ) → places_at (map posting_of l.self-inside.lists.items) c ≡ places_at l.fn.self c

abbrev pub decreases-loop-self : goal.decreases-loop-self
decreases-loop-self l = l.code-2 + 1 - length l.self-inside.lists.items
