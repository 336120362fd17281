use Rattle.ut_gen.proofs.draws.+jump.Given as goal

abbrev pub decreases-jump : goal.decreases-jump
decreases-jump l = l.draws
