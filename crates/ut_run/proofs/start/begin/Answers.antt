use Rattle.ut_run.proofs.BeginLemmas.{begun_made, begun_opened, not_begun_made, not_begun_opened}
use Rattle.ut_run.proofs.start.begin.Goals as goal

pub returns-in-New-clause-begun : goal.returns-in-New-clause-begun
returns-in-New-clause-begun g c = rw c.in-New.is (begun_made g.D.Disk.view c.args.rows (g.D.Disk.view c.args.disk.now) c.make.result c.make.ensures.makes)

pub returns-in-New-clause-not_begun : goal.returns-in-New-clause-not_begun
returns-in-New-clause-not_begun g c = rw c.in-New.is (not_begun_made g.D.Disk.view c.args.rows (g.D.Disk.view c.args.disk.now) c.make.result c.make.ensures.makes)

pub returns-in-Open-clause-begun : goal.returns-in-Open-clause-begun
returns-in-Open-clause-begun g c = rw c.in-Open.is (begun_opened g.D.Disk.view c.args.rows (g.D.Disk.view c.args.disk.now) c.open.result c.open.ensures.opens)

pub returns-in-Open-clause-not_begun : goal.returns-in-Open-clause-not_begun
returns-in-Open-clause-not_begun g c = rw c.in-Open.is (not_begun_opened g.D.Disk.view c.args.rows (g.D.Disk.view c.args.disk.now) c.open.result c.open.ensures.opens)
