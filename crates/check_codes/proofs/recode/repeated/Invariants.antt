use Rattle.ut_bits.specs.Bits.{AllBelow}
use Rattle.check_codes.proofs.recode.repeated.Given as goal

abbrev pub invariant-loop-i : goal.invariant-loop-i
invariant-loop-i g l = AllBelow 3 l.codes.items
