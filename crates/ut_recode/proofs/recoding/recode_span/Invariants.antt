use Rattle.std.proofs.Common.{◌≡◌}
use Rattle.ut_own.specs.Own.{recoded}
use Rattle.ut_recode.specs.Recode.{with_staying}
use Rattle.ut_recode.specs.Spans.{span}
use Rattle.ut_recode.proofs.recoding.recode_span.Given as goal

abbrev pub invariant-loop-i : goal.invariant-loop-i
invariant-loop-i l = l.out.items ≡ recoded (with_staying l.fn.first l.map) (span l.fn.from l.i l.codes)
