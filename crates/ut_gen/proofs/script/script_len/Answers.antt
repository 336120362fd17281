use Rattle.ut_gen.proofs.PlaceLemmas.{script-length}
use Rattle.ut_gen.proofs.script.script_len.Goals as goal

pub returns-clause-all : goal.returns-clause-all
returns-clause-all c seed = script-length seed c.args.size
