use Rattle.std.proofs.Common.{◌≡◌, ◌*◌, ◌/◌, length}
use Rattle.ut_own.specs.Own.{recoded}
use Rattle.ut_recode.specs.Recode.{with_staying}
use Rattle.ut_recode.specs.Spans.{span}
use Rattle.ut_recode.proofs.recoding.join_shares.Given as goal

abbrev pub invariant-loop-share : goal.invariant-loop-share
invariant-loop-share l = l.out.items ≡ recoded (with_staying l.fn.first l.fn.map) (span 0 (l.share-index * length l.fn.codes / length l.shares) l.fn.codes)
