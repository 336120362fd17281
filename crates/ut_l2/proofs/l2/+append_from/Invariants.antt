use Rattle.std.proofs.Common.{length, ◌-◌}
use Rattle.ut_l2.proofs.l2.+append_from.Given as goal

abbrev pub decreases-append_from : goal.decreases-append_from
decreases-append_from l = length l.columns.now.items - l.first
