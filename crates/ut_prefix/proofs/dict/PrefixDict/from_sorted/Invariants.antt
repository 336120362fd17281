use Rattle.std.proofs.Common.{◌≡◌, ◌-◌, ◌*◌, ◌++◌, length, drop}
use Rattle.ut_prefix.specs.Spelling.{blocks_bytes}
use Rattle.ut_prefix.specs.Reading.{starts_of}
use Rattle.ut_prefix.proofs.dict.PrefixDict.from_sorted.Given as goal

abbrev pub invariant-loop-i : goal.invariant-loop-i
invariant-loop-i l =
    (l.bytes.items ++ blocks_bytes (l.blocks - l.i) (drop (16 * l.i) l.keys) ≡ blocks_bytes l.blocks l.keys)
    × (l.starts.items ++ starts_of (l.blocks - l.i) (length l.bytes.items) (drop (16 * l.i) l.keys) ≡ starts_of l.blocks 0 l.keys)
