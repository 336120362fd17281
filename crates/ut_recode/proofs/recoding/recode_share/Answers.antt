use Rattle.std.proofs.Common.{arith}
use Rattle.ut_recode.proofs.recoding.recode_share.Goals as goal

pub recode_span-requires-clause-to : goal.recode_span-requires-clause-to
recode_span-requires-clause-to c = omega (arith, c.share-to.ensures.small)
