use Rattle.std.proofs.Common.{◌≡◌, ◌+◌, ◌-◌, get_or, []}
use Rattle.ut_prefix.specs.Reading.{CanDecode, block_keys}
use Rattle.ut_prefix.proofs.BlockLemmas.{nth}
use Rattle.ut_prefix.proofs.block.key_in_block.Given as goal

abbrev pub invariant-loop : goal.invariant-loop
invariant-loop l =
    CanDecode (l.i - l.counter) l.key l.rest × (nth (l.i - l.counter) l.key l.rest ≡ get_or (block_keys (l.i + 1) l.block) l.i [])
