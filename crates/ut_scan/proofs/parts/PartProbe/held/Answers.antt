use Rattle.std.proofs.Common.{◌∙◌, List, ap}
use Rattle.std.proofs.lemmas.List.{take_all}
use Rattle.ut_scan.specs.declared.coded.CodedPred.{CodedPred}
use Rattle.ut_scan.specs.Coded.{held_mask}
use Rattle.ut_scan.proofs.MainLemmas.{mask-none, mask-length, more-mask}
use Rattle.ut_scan.proofs.parts.PartProbe.held.Goals as goal

pub loop-pred-init : goal.loop-pred-init
loop-pred-init c = c.in_ok-mask.ensures ∙ mask-none c.args.self.now.part.now c.args.self.now.coded.now c.len.result c.len.ensures.len

pub keep_in-requires : goal.keep_in-requires
keep_in-requires c =
    mask-length c.args.self.now.part.now c.args.self.now.coded.now c.pred-item.result c.ranges-in-loop-pred.result.now c.codes.result.now c.codes.ensures c.ranges-in-loop-pred.ensures c.loop-pred.pred-index c.loop-pred-test.true c.pred-item.is
    c.loop-pred.mask c.loop-pred.invariant

pub loop-pred-preserved : goal.loop-pred-preserved
loop-pred-preserved c =
    more-mask c.args.self.now.part.now c.args.self.now.coded.now c.pred-item.result c.ranges-in-loop-pred.result.now c.codes.result.now c.codes.ensures c.ranges-in-loop-pred.ensures c.loop-pred.pred-index c.loop-pred-test.true c.pred-item.is
    c.loop-pred.mask c.keep_in.new.mask c.loop-pred.invariant c.keep_in.ensures

pub returns : goal.returns
returns c = c.loop-pred.invariant ∙ ap (λ (l : List CodedPred). held_mask l c.args.self.now.part.now) (take_all c.loop-pred.pred-index c.args.self.now.coded.now c.loop-pred-test.false)
