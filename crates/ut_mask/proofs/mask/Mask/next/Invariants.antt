use Rattle.std.proofs.Common.{◌≡◌, ℕ, ◌/◌, ◌<◌, ◌≤◌, get_or, false}
use Rattle.ut_mask.specs.Mask.{words_bits}
use Rattle.ut_mask.proofs.mask.Mask.next.Given as goal

abbrev pub invariant-loop-k : goal.invariant-loop-k
invariant-loop-k l = record {
  behind : l.from ≤ l.at;
  word : l.at / 64 ≡ l.k;
  none : (j : ℕ) → l.from ≤ j → j < l.at → get_or (words_bits l.words) j false ≡ false;
}
