use Rattle.std.proofs.Common.{length, ◌-◌}
use Rattle.ut_l2.proofs.l2.+cut_from.Given as goal

abbrev pub decreases-cut_from : goal.decreases-cut_from
decreases-cut_from l = length l.columns.now.items - l.first
