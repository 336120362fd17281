use Rattle.std.proofs.Common.{◌≡◌, ◌*◌, take}
use Rattle.std.specs.Prelude.{map}
use Rattle.ut_bits.specs.Places.{is_in}
use Rattle.ut_mask.specs.Mask.{kept}
use Rattle.ut_packed.proofs.masks.keep_words.Given as goal

abbrev pub invariant-loop-b : goal.invariant-loop-b
invariant-loop-b l = l.mask ≡ kept l.initial.mask (map (is_in l.ranges) (take (1024 * l.b) l.list.codes))
