use Rattle.ut_main.proofs.MainLemmas.{dicts-low}
use Rattle.ut_main.proofs.StandLemmas.{part-one}
use Rattle.ut_main.proofs.laws.part_laws.Goals as goal

pub returns : goal.returns
returns c = λ columns main a b wide. part-one columns main a b wide (dicts-low main)
