use Rattle.ut_durable.proofs.GroupLemmas.{wait_is_stored, wait_leaves, group_is_stored, group_leaves}
use Rattle.ut_durable.proofs.laws.group_laws.Goals as goal

pub returns : goal.returns
returns g c = record { wait = wait_is_stored g.D.Disk.view; wait_leaves = wait_leaves g.D.Disk.view; group = group_is_stored g.D.Disk.view; group_leaves = group_leaves g.D.Disk.view }
