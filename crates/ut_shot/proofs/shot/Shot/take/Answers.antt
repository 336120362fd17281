use Rattle.std.proofs.Common.{refl}
use Rattle.ut_shot.proofs.TakeLemmas.{columns-here, narrow-here, heads-more, stages-more, all-taken}
use Rattle.ut_shot.proofs.shot.Shot.take.Goals as goal

pub taken_table-requires-clause-columns : goal.taken_table-requires-clause-columns
taken_table-requires-clause-columns c = columns-here c.args.look.now c.args.query.now c.requires c.loop-n.n _ _ c.loop-n-test.true

pub taken_table-requires-clause-narrow : goal.taken_table-requires-clause-narrow
taken_table-requires-clause-narrow c = narrow-here c.args.look.now c.args.query.now c.requires c.loop-n.n _ c.loop-n-test.true

pub loop-n-preserved : goal.loop-n-preserved
loop-n-preserved c = (
  heads-more c.args.look.now c.args.query.now c.requires c.loop-n.n _ _ c.loop-n.tables.items _ c.loop-n-test.true c.in_ok-duplicate.ensures c.loop-n.invariant.0 c.in_ok-push.ensures.items,
  stages-more c.args.look.now c.args.query.now c.requires c.loop-n.n _ c.in_ok-table.table c.loop-n.stages.items _ c.loop-n-test.true c.in_ok-table.ensures c.loop-n.invariant.1 c.in_ok-push-2.ensures.items,
)

pub returns : goal.returns
returns c = λ rows sees.
    all-taken c.args.look.now c.args.query.now c.requires c.loop-n.n c.loop-n.tables.items c.loop-n.stages.items _ c.loop-n-test.false c.loop-n.invariant.0 c.loop-n.invariant.1 refl refl c.in_ok-settled.ensures rows sees
