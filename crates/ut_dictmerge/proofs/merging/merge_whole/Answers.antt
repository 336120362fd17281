use Rattle.ut_dictmerge.proofs.FrontLemmas.{ok_then}
use Rattle.ut_dictmerge.proofs.JoinLemmas.{one_piece}
use Rattle.ut_dictmerge.proofs.merging.merge_whole.Goals as goal

pub returns : goal.returns
returns c =
    ok_then c.write_piece.result _ _ c.write_piece.ensures
    (λ m piece. one_piece c.args.a.now c.args.used_a.now c.args.b.now c.args.used_b.now _ m.keys m.from_a.items m.from_b.items c.requires.lists c.len.ensures.len c.len-2.ensures.len piece)
