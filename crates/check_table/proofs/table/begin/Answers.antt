use Rattle.std.proofs.Common.{[], arith}
use Rattle.ut_table.proofs.NumberedLemmas.{numbered-closed, small-job}
use Rattle.check_table.proofs.table.begin.Goals as goal

pub close_l2-requires-clause-job : goal.close_l2-requires-clause-job
close_l2-requires-clause-job c = small-job c.args.fates.now [] _ _ c.args.table.now.stages c.in_ok-keep.ensures c.requires.kind
    (omega (arith, c.places.ensures, c.if-places-gt100.false)) (omega (arith, c.part_count.ensures.count, c.part_count.ensures.few, c.if-part_count-eq8.false))

pub returns-clause-numbered : goal.returns-clause-numbered
returns-clause-numbered c = numbered-closed c.args.next _ _ c.args.table.now.stages c.close_l2.new.self.stages c.in_ok-job.ensures.ok c.requires.rest
