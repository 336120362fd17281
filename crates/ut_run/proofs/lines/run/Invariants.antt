use Rattle.std.proofs.Common.{◌≡◌, ◌-◌}
use Rattle.ut_run.specs.Going.{Going}
use Rattle.ut_run.proofs.lines.run.Given as goal

abbrev pub invariant-loop-status : goal.invariant-loop-status
invariant-loop-status g l = record {
  going : Going l.fn.plan
      (record { source = g.S.Source.left l.fn.source; asks = g.S.Source.asks l.fn.source; reads = g.S.Source.faults l.fn.source; sink = g.K.Taken.held l.fn.sink; marks = g.K.Sink.moments l.fn.sink; writes = g.K.Sink.faults l.fn.sink; disk = g.D.Disk.view l.fn.disk })
      (record { source = g.S.Source.left l.source; asks = g.S.Source.asks l.source; reads = g.S.Source.faults l.source; sink = g.K.Taken.held l.sink; marks = g.K.Sink.moments l.sink; writes = g.K.Sink.faults l.sink; disk = g.D.Disk.view l.engine.disk })
      l.count l.lines l.engine.store l.replies.acks.items l.replies.journal;
  loan : l.engine.loan ≡ l.initial.engine.loan;
}

abbrev pub decreases-loop-status : goal.decreases-loop-status
decreases-loop-status g l = l.fn.plan.lines - l.count
