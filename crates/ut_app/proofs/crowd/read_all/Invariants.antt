use Rattle.std.proofs.Common.{◌-◌, length}
use Rattle.ut_app.proofs.CrowdLemmas.{IsReadingAll}
use Rattle.ut_app.proofs.crowd.read_all.Given as goal

abbrev pub invariant-loop-lines : goal.invariant-loop-lines
invariant-loop-lines g l = IsReadingAll l.fn.limit (g.S.Source.left l.fn.source) l.lines.items l.reader (g.S.Source.left l.source) (g.S.Source.faults l.fn.source) (g.S.Source.faults l.source)

abbrev pub decreases-loop-lines : goal.decreases-loop-lines
decreases-loop-lines g l = l.fn.limit - length l.lines.items
