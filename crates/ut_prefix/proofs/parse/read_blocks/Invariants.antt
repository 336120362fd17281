use Rattle.ut_prefix.proofs.EntryLemmas.{IsReading, AgreesWith}
use Rattle.ut_prefix.proofs.parse.read_blocks.Given as goal

abbrev pub invariant-loop-i : goal.invariant-loop-i
invariant-loop-i l = IsReading l.i l.bytes l.key l.rest l.starts.items l.total × AgreesWith l.len l.i l.bytes l.key l.rest
