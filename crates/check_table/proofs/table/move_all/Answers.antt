use Rattle.ut_table.proofs.NumberedLemmas.{rest-merged_l1}
use Rattle.check_table.proofs.table.move_all.Goals as goal

pub returns : goal.returns
returns g c = rest-merged_l1 c.args.next 9 c.args.table.now.stages c.merge_l1.new.self.stages c.in_ok-moved.ensures.ok c.requires
