use Rattle.std.proofs.Common.{◌≡◌, ◌*◌, Bool, List, length, take}
use Rattle.std.specs.Prelude.{map}
use Rattle.ut_bits.specs.Places.{is_in}
use Rattle.ut_mask.specs.Mask.{kept}
use Rattle.ut_packed.proofs.masks.keep_block.Given as goal

-- the words so far, behind what the blocks before left
abbrev pub invariant-loop-k : goal.invariant-loop-k
invariant-loop-k l = record {
  size : length l.mask ≡ length l.list.codes;
  done : (first : List Bool) → length first ≡ length l.list.codes → l.initial.mask ≡ kept first (map (is_in l.ranges) (take (1024 * l.fn.b) l.list.codes))
      → l.mask ≡ kept first (map (is_in l.ranges) (take (64 * l.k) l.list.codes));
}
