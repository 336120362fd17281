use Rattle.ut_dictmerge.proofs.FrontLemmas.{borders_at}
use Rattle.ut_dictmerge.proofs.parallel.count_at.Goals as goal

pub count_piece-requires-clause-borders : goal.count_piece-requires-clause-borders
count_piece-requires-clause-borders c = borders_at c.args.a.now c.args.b.now c.args.pieces c.args.cuts.now c.args.k c.requires.cuts c.requires.within
