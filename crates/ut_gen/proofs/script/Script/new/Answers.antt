use Rattle.std.proofs.Common.{ap, ◌∙◌, sym, arith}
use Rattle.ut_gen.specs.Draws.{advanced}
use Rattle.ut_gen.proofs.DrawLemmas.{advanced_none}
use Rattle.ut_gen.proofs.script.Script.new.Goals as goal

pub invariant_of-result : goal.invariant_of-result
invariant_of-result c =
    (c.requires, omega arith, sym (advanced_none c.args.seed) ∙ ap (advanced c.args.seed) (omega arith))
