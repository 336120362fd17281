use Rattle.std.proofs.Common.{subst, sym, map, string_bytes}
use Rattle.ut_program.specs.Program.{Unasked, AreTold}
use Rattle.ut_program.proofs.WordLemmas.{told_ends}
use Rattle.ut_program.proofs.run.run.Goals as goal

pub returns-in-Ok : goal.returns-in-Ok
returns-in-Ok g c = told_ends _ _ _ _ _ (subst (λ ws. AreTold (g.W.Words.told c.args.words.now) (map string_bytes ws)) (sym c.deref.ensures.value) c.in-Ok.ensures.all) c.run_words.ensures

pub returns-in-Err : goal.returns-in-Err
returns-in-Err g c = Unasked (c.unasked.ensures (g.W.Words.told c.args.words.now) c.in-Err.ensures.says)
