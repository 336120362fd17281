use Rattle.ut_codes.proofs.SizeLemmas.{AllBelow-width}
use Rattle.ut_codes.proofs.code_vec.CodeVec.from_codes.Goals as goal

pub from_codes-requires-clause-below : goal.from_codes-requires-clause-below
from_codes-requires-clause-below c = AllBelow-width c.args.reach _ c.args.codes.now c.requires.below c.width_of-width.ensures.least.0

pub from_codes-requires-in-Runs-clause-below : goal.from_codes-requires-in-Runs-clause-below
from_codes-requires-in-Runs-clause-below c = AllBelow-width c.args.reach _ c.args.codes.now c.requires.below c.width_of-width.ensures.least.0

pub leaving_out-requires-clause-below : goal.leaving_out-requires-clause-below
leaving_out-requires-clause-below c = AllBelow-width c.args.reach _ c.args.codes.now c.requires.below c.width_of-width.ensures.least.0
