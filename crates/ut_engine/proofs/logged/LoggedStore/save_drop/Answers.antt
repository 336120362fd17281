use Rattle.std.proofs.Common.{refl}
use Rattle.ut_plain.specs.declared.statement.Statement.TheVariants as statements
use Rattle.ut_engine.proofs.FlipLemmas.{serves_dropped}
use Rattle.ut_engine.proofs.PhaseLemmas.{in_turn, is_counted}
use Rattle.ut_engine.proofs.UnchangedLemmas.{serves_out_of_turn}
use Rattle.ut_engine.proofs.logged.LoggedStore.save_drop.Goals as goal

pub refused-requires-clause-counted : goal.refused-requires-clause-counted
refused-requires-clause-counted g c = is_counted _ _ _ c.requires.runs.1

pub returns-in-Some-clause-serves : goal.returns-in-Some-clause-serves
returns-in-Some-clause-serves g c session = serves_out_of_turn c.args.self.now _ session statements.SaveDrop _ (g.met.D.Disk.only_now c.args.disk.now) refl c.in-Some.ensures.refused

pub returns-clause-serves : goal.returns-clause-serves
returns-clause-serves g c session = serves_dropped c.args.self.now (g.D.Disk.view c.args.disk.now) session (g.met.D.Disk.only_now c.args.disk.now) (in_turn _ _ statements.SaveDrop c.in_default.ensures.passes)
