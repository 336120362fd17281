use Rattle.std.proofs.Common.{◌≡◌, take}
use Rattle.ut_bits.proofs.bit_list.BitList.from_codes.Given as goal

abbrev pub invariant-loop-code : goal.invariant-loop-code
invariant-loop-code l = (l.writer.width ≡ l.width) × (l.writer.codes ≡ take l.code-index l.codes)
