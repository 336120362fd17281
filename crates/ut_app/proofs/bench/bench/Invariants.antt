use Rattle.std.proofs.Common.{◌≡◌, length}
use Rattle.ut_app.specs.Benching.{IsBenching}
use Rattle.ut_app.proofs.bench.bench.Given as goal

abbrev pub invariant-loop-end : goal.invariant-loop-end
invariant-loop-end g l = record {
  going : IsBenching l.fn.plan (g.D.Disk.view l.fn.disk) (g.D.Disk.view l.engine.disk) l.script l.notes.lines l.engine.store (record { acks = l.notes.acks.items; journal = l.notes.journal; tally = l.notes.tally });
  loan : l.engine.loan ≡ l.initial.engine.loan;
  same : l.sink ≡ l.fn.sink;
}

abbrev pub decreases-loop-end : goal.decreases-loop-end
decreases-loop-end g l = length l.script
