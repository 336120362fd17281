use Rattle.ut_main.proofs.MainLemmas.{AreDicts}
use Rattle.ut_main.proofs.parts.Main.dicts.Given as goal

abbrev pub invariant-loop-part : goal.invariant-loop-part
invariant-loop-part l = AreDicts l.self l.column l.part-index l.chain
