use Rattle.std.proofs.Common.{ℕ, ◌+◌, ◌/◌, ◌∙◌, ap, sym, arith}
use Rattle.ut_gen.specs.Draws.{IsJump, advanced}
use Rattle.ut_gen.proofs.DrawLemmas.{jump-none, jump-one, jump-then}
use Rattle.ut_gen.proofs.draws.+jump.Goals as goal

pub returns-then-draws-eq0 : goal.returns-then-draws-eq0
returns-then-draws-eq0 t c x h = jump-none x h ∙ ap (advanced x) (sym c.if-draws-eq0.true)

pub returns-then-draws-eq0-2 : goal.returns-then-draws-eq0-2
returns-then-draws-eq0-2 t c =
    jump-then c.args.draws (c.args.draws / 2) (c.args.draws / 2) _ _ _ _ _ _ c.jump-half.ensures c.jump-half.ensures c.then-even.ensures.factor c.then-even.ensures.term (omega arith)

pub returns-else-draws-eq0-2 : goal.returns-else-draws-eq0-2
returns-else-draws-eq0-2 t c =
    let half : ℕ = c.args.draws / 2
    in let even : IsJump (half + half) c.then-even.result.factor c.then-even.result.term =
    jump-then (half + half) half half _ _ _ _ _ _ c.jump-half.ensures c.jump-half.ensures c.then-even.ensures.factor c.then-even.ensures.term (omega arith)
    in jump-then c.args.draws (half + half) 1 _ _ _ _ _ _ even jump-one c.then.ensures.factor c.then.ensures.term (omega arith)
