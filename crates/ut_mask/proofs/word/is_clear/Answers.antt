use Rattle.ut_mask.proofs.WordsLemmas.{zero-clear}
use Rattle.ut_mask.proofs.word.is_clear.Goals as goal

pub returns : goal.returns
returns c = zero-clear c.args.word c.ranges.word.fits
