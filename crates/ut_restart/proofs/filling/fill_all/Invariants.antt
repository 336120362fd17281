use Rattle.std.specs.Vec.Iter.{into_iter_items}
use Rattle.ut_restart.proofs.FillLemmas.{Filling}
use Rattle.ut_restart.proofs.filling.fill_all.Given as goal

abbrev pub invariant-loop-drawn : goal.invariant-loop-drawn
invariant-loop-drawn l = Filling l.fn.tables l.fn.mains l.heads.items l.filled.items (into_iter_items l.drawn-iterator.a) (into_iter_items l.drawn-iterator.b)
