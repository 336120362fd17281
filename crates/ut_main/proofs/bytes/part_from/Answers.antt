use Rattle.ut_main.proofs.KindLemmas.{kinds-follow, some-follows}
use Rattle.ut_main.proofs.bytes.part_from.Goals as goal

pub returns-clause-kinds : goal.returns-clause-kinds
returns-clause-kinds c = some-follows c.counted_part.result (λ part h. kinds-follow c.args.columns.now c.args.earlier.now part c.requires h.0) c.counted_part.ensures.some
