use Rattle.std.proofs.Common.{◌≡◌, ◌-◌, ◌++◌, get_or, [], drop, take}
use Rattle.ut_prefix.specs.Spelling.{rest_bytes, block_bytes}
use Rattle.ut_prefix.proofs.write.write_block.Given as goal

abbrev pub invariant-loop-i : goal.invariant-loop-i
invariant-loop-i l =
    l.out.items ++ rest_bytes (get_or l.keys (l.i - 1) []) (take (l.end - l.i) (drop l.i l.keys)) ≡ l.fn.out.items ++ block_bytes (take (l.end - l.start) (drop l.start l.keys))
