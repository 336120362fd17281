use Rattle.ut_durable.proofs.OpenLemmas.{opened_is_stored, made_is_stored}
use Rattle.ut_durable.proofs.SavingLemmas.{stored_holds_all}
use Rattle.ut_durable.proofs.laws.stored_laws.Goals as goal

pub returns : goal.returns
returns g c = record { opened = opened_is_stored g.D.Disk.view; made = made_is_stored g.D.Disk.view; holds = stored_holds_all g.D.Disk.view }
