use Rattle.std.proofs.Common.{ap, ◌∙◌, sym, subst, List, ℕ, true, false, ◌+◌, ◌++◌, arith, add-one, drop}
use Rattle.ut_gen.specs.Draws.{advanced}
use Rattle.ut_gen.specs.Script.{script}
use Rattle.ut_gen.specs.Lines.{TakesLine, drawn, draws_of, line_text}
use Rattle.ut_gen.proofs.DrawLemmas.{advanced-add}
use Rattle.ut_gen.proofs.PlaceLemmas.{line-within}
use Rattle.ut_gen.proofs.TakeLemmas.{takes-none, takes-line}
use Rattle.ut_gen.proofs.script.Script.next_line.Goals as goal

pub returns-in_default-clause-line : goal.returns-in_default-clause-line
returns-in_default-clause-line c =
    let left : List (List ℕ) → Type 0 = λ l. TakesLine l l false c.args.out.now.items c.args.out.now.items
    in subst left c.self.view_is (takes-none (script c.self.inside.seed c.self.inside.size) c.self.inside.next c.args.out.now.items (c.in_default.ensures.line c.self.inside.seed))

pub invariant_of-self-2 : goal.invariant_of-self-2
invariant_of-self-2 c = (
  c.self.invariant.0,
  omega (arith, line-within c.self.inside.seed c.self.inside.size c.self.inside.next _ (c.in-Some.ensures.line c.self.inside.seed)),
  c.in_ok-put_line.ensures.state
      ∙ ap (λ x. advanced x (draws_of c.in-Some.line)) c.self.invariant.2
      ∙ advanced-add c.self.inside.seed (drawn c.self.inside.size c.self.inside.next) (draws_of c.in-Some.line)
      ∙ ap (advanced c.self.inside.seed) (sym c.in-Some.ensures.draws),
)

pub returns-clause-line : goal.returns-clause-line
returns-clause-line c =
    let whole : List (List ℕ) = script c.self.inside.seed c.self.inside.size
    in let left : List (List ℕ) → Type 0 =
    λ l. TakesLine l (drop (c.self.inside.next + 1) whole) true c.args.out.now.items c.put_line.new.out.items
    in subst left c.self.view_is (rw add-one (takes-line whole c.self.inside.next _ _ _ (c.in-Some.ensures.line c.self.inside.seed) (c.in_ok-put_line.ensures.text ∙ ap (λ x. c.args.out.now.items ++ line_text x c.in-Some.line) c.self.invariant.2)))
