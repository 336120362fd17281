use Rattle.std.proofs.Common.{arith}
use Rattle.ut_crowd.proofs.RipeLemmas.{l1_found, l1_none}
use Rattle.ut_crowd.proofs.merger.first_full.Goals as goal

pub returns-then-l1_len-rows-clause-each : goal.returns-then-l1_len-rows-clause-each
returns-then-l1_len-rows-clause-each g c p s =
    l1_found c.args.engine.now.store.store c.args.rows p s c.loop-place.place c.l1_len.result (let lt = c.loop-place-test.true in let held = c.tables-place-end.ensures.held in omega (arith, lt, held)) c.l1_len.ensures (c.loop-place.invariant p s)
    (let full = c.if-l1_len-rows.true in omega (arith, full))

pub returns-clause-each : goal.returns-clause-each
returns-clause-each g c p s =
    l1_none c.args.engine.now.store.store c.args.rows p s c.tables-place-end.result c.tables-place-end.ensures
    (λ k lt. c.loop-place.invariant p s k (let end = c.loop-place-test.false in omega (arith, lt, end)))
