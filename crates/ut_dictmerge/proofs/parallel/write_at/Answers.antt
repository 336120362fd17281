use Rattle.std.proofs.Common.{arith}
use Rattle.ut_dictmerge.proofs.FrontLemmas.{borders_at, piece_fits}
use Rattle.ut_dictmerge.proofs.parallel.write_at.Goals as goal

pub write_piece-requires-clause-borders : goal.write_piece-requires-clause-borders
write_piece-requires-clause-borders c = borders_at c.args.a.now c.args.b.now c.args.pieces c.args.cuts.now c.args.k c.requires.cuts c.requires.within

pub write_piece-requires-clause-room : goal.write_piece-requires-clause-room
write_piece-requires-clause-room c =
    let fits = piece_fits c.args.a.now c.args.used_a.now c.args.b.now c.args.used_b.now c.args.pieces c.args.cuts.now c.args.k (record { lists = c.requires.lists; some = c.requires.pieces; cuts_are = c.requires.cuts }) c.requires.within in
    omega (arith, fits, c.requires.bases c.args.k c.requires.within, c.requires.room)
