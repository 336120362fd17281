use Rattle.std.proofs.Common.{get_or}
use Rattle.std.proofs.lemmas.List.{get_or_default}
use Rattle.ut_merge.specs.declared.old.Old.TheVariants.{Part}
use Rattle.ut_merge.proofs.GatherLemmas.{gather-more}
use Rattle.ut_merge.proofs.gathering.codes_at.Goals as goal

pub loop-old-preserved : goal.loop-old-preserved
loop-old-preserved c =
    let s = c.args.sources.now in
    let olds = c.args.olds.now in
    let i = c.loop-old.old-index in
    let old = get_or olds i (Part 0 0) in
    gather-more s.job.now s.column olds i c.loop-old.codes.items c.push.new.self.items old c.code_at.result c.loop-old-test.true (get_or_default olds i (Part 0 0) old c.loop-old-test.true) c.loop-old.invariant c.code_at.ensures.within c.code_at.ensures.key
    c.in_ok-push.ensures.items
