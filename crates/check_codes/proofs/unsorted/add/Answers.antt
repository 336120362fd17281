use Rattle.std.proofs.Common.{length, ap, arith}
use Rattle.ut_unsorted.proofs.FirstSeenLemmas.{length-note}
use Rattle.check_codes.proofs.unsorted.add.Goals as goal

pub returns : goal.returns
returns g c = omega (arith, ap (λ l. length l) c.in_ok-intern.ensures.keys, length-note c.args.dict.now c.args.key.now)
