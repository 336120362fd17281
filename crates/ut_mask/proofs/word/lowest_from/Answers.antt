use Rattle.std.proofs.Common.{arith}
use Rattle.ut_mask.proofs.BitLemmas.{word_bits-none, word_bits-lowest}
use Rattle.ut_mask.proofs.word.lowest_from.Goals as goal

pub returns-then-rest-eq0-clause-first : goal.returns-then-rest-eq0-clause-first
returns-then-rest-eq0-clause-first c = λ j. word_bits-none c.args.word c.args.from j c.if-rest-eq0.true

pub returns-clause-within : goal.returns-clause-within
returns-clause-within c = omega (arith, (word_bits-lowest c.args.word c.args.from c.ranges.word.fits (omega (arith, c.if-rest-eq0.false))).within)

pub returns-clause-stands : goal.returns-clause-stands
returns-clause-stands c = λ _. (word_bits-lowest c.args.word c.args.from c.ranges.word.fits (omega (arith, c.if-rest-eq0.false))).stands

pub returns-clause-first : goal.returns-clause-first
returns-clause-first c = (word_bits-lowest c.args.word c.args.from c.ranges.word.fits (omega (arith, c.if-rest-eq0.false))).first
