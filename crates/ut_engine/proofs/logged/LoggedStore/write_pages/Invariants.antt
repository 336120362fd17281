use Rattle.std.proofs.Common.{◌≡◌}
use Rattle.ut_durable.specs.Calls.{Stays}
use Rattle.ut_engine.specs.Saves.{Goes}
use Rattle.ut_engine.proofs.logged.LoggedStore.write_pages.Given as goal

abbrev pub invariant-loop : goal.invariant-loop
invariant-loop g l = record {
  goes : Goes l.counter l.fn.self (g.D.Disk.view l.fn.disk) l.self (g.D.Disk.view l.disk);
  stays : Stays l.fn.self.files (g.D.Disk.view l.fn.disk) (g.D.Disk.view l.disk);
  told : (g.D.Disk.view l.disk).told ≡ (g.D.Disk.view l.fn.disk).told;
  still : (g.D.Disk.view l.disk).faults ≡ (g.D.Disk.view l.fn.disk).faults;
}
