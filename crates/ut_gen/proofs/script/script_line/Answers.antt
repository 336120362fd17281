use Rattle.std.proofs.Common.{List, ℕ, false, Option, refl, sym, subst}
use Rattle.ut_gen.specs.Lines.{PutsLine}
use Rattle.ut_gen.proofs.script.script_line.Goals as goal

pub returns-in_default-clause-line : goal.returns-in_default-clause-line
returns-in_default-clause-line c =
    let puts : Option (List ℕ) → Type 0 = λ line. PutsLine line false c.args.out.now.items c.args.out.now.items
    in subst puts (sym (c.in_default.ensures.line c.args.seed)) (refl, refl)
