use Rattle.std.proofs.Common.{arith}
use Rattle.ut_main.proofs.own.may_be_own.Goals as goal

pub returns-clause-own : goal.returns-clause-own
returns-clause-own g c = (
  λ lacks. record {
    dictionary = c.len.ensures.dictionary;
    few = omega (arith, c.if-rows-len.false, c.len.ensures.len);
    kinds = c.are_keys.ensures.0 c.if-not-are_keys.false;
    apart = c.lacks_all.ensures.lacks.0 lacks;
  },
  λ may. c.lacks_all.ensures.lacks.1 may.apart,
)
