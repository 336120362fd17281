use Rattle.std.proofs.Common.{◌≡◌, ◌+◌, ◌<◌, length, take, sym, subst, arith}
use Rattle.ut_key.specs.declared.comparison.ColumnPred.{ColumnPred}
use Rattle.ut_scan.specs.Coded.{AreCoded}
use Rattle.ut_scan.proofs.CodeLemmas.{coded-more, coded-sorted, cost-more, cost-within}
use Rattle.ut_scan.proofs.coded.coded_preds.Goals as goal

pub returns-in_err-coded_pred-clause-cost : goal.returns-in_err-coded_pred-clause-cost
returns-in_err-coded_pred-clause-cost g c =
    cost-within c.args.main.now c.args.preds.now c.loop-pred.pred-index c.pred-item.result c.args.steps.now c.loop-pred.steps c.coded_pred.new.steps
    c.loop-pred-test.true c.pred-item.is c.loop-pred.invariant.cost c.coded_pred.ensures.cost

pub returns-in_err-push-clause-cost : goal.returns-in_err-push-clause-cost
returns-in_err-push-clause-cost g c =
    cost-within c.args.main.now c.args.preds.now c.loop-pred.pred-index c.pred-item.result c.args.steps.now c.loop-pred.steps c.coded_pred.new.steps
    c.loop-pred-test.true c.pred-item.is c.loop-pred.invariant.cost c.coded_pred.ensures.cost

pub loop-pred-preserved : goal.loop-pred-preserved
loop-pred-preserved g c =
    let main = c.args.main.now in
    let preds = c.args.preds.now in
    let n = c.loop-pred.pred-index in
    let pred = c.pred-item.result in
    let made = c.in_ok-coded_pred.field-0 in
    let wide = subst (λ (q : ColumnPred). q.column < main.width) (sym c.pred-item.is) (c.requires.columns n pred c.loop-pred-test.true) in
    record {
      cost = cost-more main preds n pred c.args.steps.now c.loop-pred.steps c.coded_pred.new.steps c.loop-pred-test.true c.pred-item.is c.loop-pred.invariant.cost c.coded_pred.ensures.cost;
      coded = subst (AreCoded main (take (n + 1) preds)) (sym c.in_ok-push.ensures.items)
          (coded-more main preds c.loop-pred.coded.items n pred made c.loop-pred.invariant.coded c.loop-pred-test.true c.pred-item.is wide c.in_ok-coded_pred.ensures.coded);
    }

pub returns-clause-coded : goal.returns-clause-coded
returns-clause-coded g c =
    let size : length c.loop-pred.coded.items ≡ c.loop-pred.coded.len = omega (arith, c.loop-pred.coded.ok.0) in
    coded-sorted c.args.main.now c.args.preds.now c.loop-pred.pred-index c.loop-pred.coded.len c.loop-pred.coded.items c.as_mut_slice.result.now c.order_by_share.new.coded c.loop-pred.invariant.coded (omega (arith, c.loop-pred-test.false)) c.as_mut_slice.ensures.value c.order_by_share.ensures size
