use Rattle.std.proofs.Common.{◌≡◌, ◌-◌, ◌++◌, ◌≤◌, drop}
use Rattle.ut_prefix.specs.Reading.{CanDecode, decoded, block_keys}
use Rattle.ut_prefix.proofs.block.push_block.Given as goal

abbrev pub invariant-loop : goal.invariant-loop
invariant-loop l =
    (l.counter ≤ l.count) × CanDecode (l.count - l.counter) l.key l.rest × (l.keys ++ drop 1 (decoded (l.count - l.counter) l.key l.rest) ≡ l.fn.keys ++ block_keys l.count l.block)
