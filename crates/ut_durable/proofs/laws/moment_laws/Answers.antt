use Rattle.ut_durable.proofs.MomentLemmas.{append_leaves, stay_leaves, switch_leaves, flip_leaves}
use Rattle.ut_durable.proofs.laws.moment_laws.Goals as goal

pub returns : goal.returns
returns g c = record { append = append_leaves g.D.Disk.view; stay = stay_leaves g.D.Disk.view; switch = switch_leaves g.D.Disk.view; flip = flip_leaves g.D.Disk.view }
