use Rattle.std.proofs.Common.{arith}
use Rattle.ut_prefix.proofs.SpellingLemmas.{shared-end}
use Rattle.ut_prefix.proofs.write.shared_len.Goals as goal

pub returns-clause-shared : goal.returns-clause-shared
returns-clause-shared c =
    let left = shared-end c.args.a.now c.args.b.now c.loop-i.i (omega (arith, c.min-end.ensures)) in
    omega (arith, c.loop-i.invariant, left, c.min-end.ensures)
