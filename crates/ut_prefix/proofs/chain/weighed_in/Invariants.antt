use Rattle.std.proofs.Common.{◌≡◌, ◌+ℤ◌, length, take, drop}
use Rattle.ut_prefix.specs.Chain.{end_to_end, shared_dicts}
use Rattle.ut_prefix.specs.Totals.{weighed, IsWithin}
use Rattle.ut_prefix.proofs.chain.weighed_in.Given as goal

abbrev pub invariant-loop-dict : goal.invariant-loop-dict
invariant-loop-dict l =
    (l.sum +ℤ weighed l.left (end_to_end (drop l.dict-index (shared_dicts l.dicts))) ≡ weighed l.weights (end_to_end (shared_dicts l.dicts)))
    × IsWithin 79228162514264337593543950336 (length (end_to_end (take l.dict-index (shared_dicts l.dicts)))) l.sum
