use Rattle.ut_codes.proofs.SizeLemmas.{AllBelow-width, below-test}
use Rattle.check_codes.proofs.codes.run_count.Goals as goal

pub from_codes-requires-clause-below : goal.from_codes-requires-clause-below
from_codes-requires-clause-below g c = AllBelow-width c.args.reach _ c.args.codes.now ((below-test c.args.reach c.args.codes.now).0 cc) c.width_of-width.ensures.least.0
