use Rattle.std.proofs.Common.{◌≡◌, length}
use Rattle.ut_bits.specs.Bits.{AllBelow}
use Rattle.bench_codes.proofs.draws.codes.Given as goal

abbrev pub invariant-loop-i : goal.invariant-loop-i
invariant-loop-i l = record { count : length l.codes.items ≡ l.i; below : AllBelow l.reach l.codes.items }
