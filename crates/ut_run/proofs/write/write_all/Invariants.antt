use Rattle.std.proofs.Common.{◌≡◌, length}
use Rattle.ut_run.specs.Writing.{IsWriting}
use Rattle.ut_run.proofs.write.write_all.Given as goal

abbrev pub invariant-loop-rest : goal.invariant-loop-rest
invariant-loop-rest g l = record {
  writing : IsWriting (g.K.Taken.held l.fn.sink) (g.K.Sink.moments l.fn.sink) l.bytes l.rest (g.D.Disk.view l.disk).moment (g.K.Taken.held l.sink) (g.K.Sink.moments l.sink);
  still : g.K.Sink.faults l.sink ≡ g.K.Sink.faults l.fn.sink;
}

abbrev pub decreases-loop-rest : goal.decreases-loop-rest
decreases-loop-rest g l = length l.rest
