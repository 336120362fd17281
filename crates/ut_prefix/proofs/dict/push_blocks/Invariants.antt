use Rattle.std.proofs.Common.{◌++◌}
use Rattle.ut_prefix.specs.Reading.{keys_of}
use Rattle.ut_prefix.proofs.WalkLemmas.{IsWalked}
use Rattle.ut_prefix.proofs.dict.push_blocks.Given as goal

abbrev pub invariant-loop-start : goal.invariant-loop-start
invariant-loop-start l = IsWalked l.starts l.start-index l.left l.bytes l.keys (l.fn.keys ++ keys_of l.starts l.len l.bytes)
