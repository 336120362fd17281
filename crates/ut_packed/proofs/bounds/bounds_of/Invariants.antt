use Rattle.std.proofs.Common.{◌≡◌, ℕ, ◌*◌, ◌/◌, ◌<◌, length, get_or}
use Rattle.ut_packed.specs.declared.bounds.Bounds.{Bounds}
use Rattle.ut_packed.specs.Bounds.{IsBetween}
use Rattle.ut_packed.proofs.bounds.bounds_of.Given as goal

abbrev pub invariant-loop-k : goal.invariant-loop-k
invariant-loop-k l = record {
  count : length l.bounds.items ≡ l.k;
  each : (i : ℕ) (d : Bounds) → i < length l.list.codes → i < 1024 * l.k → IsBetween (get_or l.bounds.items (i / 1024) d) (get_or l.list.codes i 0);
}
