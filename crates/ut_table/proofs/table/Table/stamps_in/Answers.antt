use Rattle.std.proofs.Common.{ap, unwrap_or, []}
use Rattle.ut_table.proofs.StageLemmas.{few, l1-stamps, l2-stamps, closed-stamps}
use Rattle.ut_table.proofs.table.Table.stamps_in.Goals as goal

pub returns-in-L1-clause-stamps : goal.returns-in-L1-clause-stamps
returns-in-L1-clause-stamps c = l1-stamps c.stages-stages.ensures c.args.stage c.l1.result.now c.in-L1.is c.l1.ensures

pub returns-in-L2-clause-stamps : goal.returns-in-L2-clause-stamps
returns-in-L2-clause-stamps c = l2-stamps c.stages-stages.ensures c.args.stage c.l2.result.now c.in-L2.is c.l2.ensures

pub returns-in-Some-clause-stamps : goal.returns-in-Some-clause-stamps
returns-in-Some-clause-stamps c = closed-stamps c.stages-stages.ensures c.args.stage c.in-Some.stamps.now c.in-Closed.is (ap (λ o. unwrap_or o []) c.in-Some.ensures)

pub returns-in-L1-clause-few : goal.returns-in-L1-clause-few
returns-in-L1-clause-few c = few c.stages-stages.ensures

pub returns-in-L2-clause-few : goal.returns-in-L2-clause-few
returns-in-L2-clause-few c = few c.stages-stages.ensures

pub returns-in-Some-clause-few : goal.returns-in-Some-clause-few
returns-in-Some-clause-few c = few c.stages-stages.ensures

pub returns-in-None-clause-few : goal.returns-in-None-clause-few
returns-in-None-clause-few c = few c.stages-stages.ensures
