use Rattle.ut_codes.proofs.SizeLemmas.{AllBelow-width}
use Rattle.bench_codes.proofs.vectors.time_calls.Goals as goal

pub from_codes-requires-2-clause-below : goal.from_codes-requires-2-clause-below
from_codes-requires-2-clause-below g c = AllBelow-width c.args.reach c.width_of-width.result c.args.codes.now c.requires.below c.width_of-width.ensures.least.0
