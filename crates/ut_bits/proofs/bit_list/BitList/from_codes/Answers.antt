use Rattle.std.proofs.Common.{arith}
use Rattle.std.proofs.lemmas.List.{length-take-le}
use Rattle.ut_bits.proofs.BitLemmas.{AllBelow-at}
use Rattle.ut_bits.proofs.bit_list.BitList.from_codes.Goals as goal

pub push-requires-clause-below : goal.push-requires-clause-below
push-requires-clause-below c = rw c.loop-code.invariant.0 (AllBelow-at _ c.args.codes.now c.loop-code.code-index c.requires.below c.loop-code-test.true)

pub push-requires-clause-room : goal.push-requires-clause-room
push-requires-clause-room c = rw (c.loop-code.invariant.1, length-take-le c.loop-code.code-index c.args.codes.now (omega arith)) (omega arith)
