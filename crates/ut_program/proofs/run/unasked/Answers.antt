use Rattle.std.proofs.Common.{refl}
use Rattle.std.specs.Prelude.{[]}
use Rattle.ut_run.proofs.RunLemmas.{did_nothing}
use Rattle.ut_program.proofs.run.unasked.Goals as goal

pub returns : goal.returns
returns g c told says = record {
  nothing = did_nothing (record { source = g.S.Source.left c.args.source.now; asks = g.S.Source.asks c.args.source.now; reads = g.S.Source.faults c.args.source.now; sink = g.K.Taken.held c.args.sink.now; marks = g.K.Sink.moments c.args.sink.now; writes = g.K.Sink.faults c.args.sink.now; disk = g.D.Disk.view c.args.disk.now }) 0 [] 0 (g.met.D.Disk.only_now c.args.disk.now) refl refl refl;
  says = says;
}
