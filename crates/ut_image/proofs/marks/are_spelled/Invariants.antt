use Rattle.std.proofs.Common.{◌≡◌, ℕ, ◌*◌, ◌<◌, take, drop, get_or}
use Rattle.ut_image.specs.Bytes.{mark_byte}
use Rattle.ut_image.proofs.marks.are_spelled.Given as goal

abbrev pub invariant-loop-k : goal.invariant-loop-k
invariant-loop-k l = (j : ℕ) → j < l.k → get_or l.bytes j 0 ≡ mark_byte (take 8 (drop (8 * j) l.marks))
