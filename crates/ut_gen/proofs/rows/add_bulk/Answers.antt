use Rattle.std.proofs.Common.{◌≡◌, ◌+◌, ◌*◌, ◌∷◌, ◌++◌, [], refl, ap, ◌∙◌, append_assoc, arith}
use Rattle.std.specs.Prelude.{codes}
use Rattle.ut_gen.specs.Draws.{advanced}
use Rattle.ut_gen.specs.Rows.{rows_text, row_text}
use Rattle.ut_gen.proofs.RowLemmas.{rows-next, rows-none}
use Rattle.ut_gen.proofs.DrawLemmas.{advanced-add}
use Rattle.ut_gen.proofs.rows.add_bulk.Goals as goal

pub loop-k-init : goal.loop-k-init
unfolding advanced
loop-k-init c = record { text = rows-none _ _ _; state = refl; room = omega arith }

pub loop-k-preserved : goal.loop-k-preserved
loop-k-preserved c = record {
  text = c.add_row.ensures.text
      ∙ ap (λ l. l ++ row_text c.loop-k.draws.state (c.args.first + c.loop-k.k)) c.add-in-loop-k.ensures.text
      ∙ ap (λ x. (c.loop-k.out.items ++ 32 ∷ []) ++ row_text x (c.args.first + c.loop-k.k)) c.loop-k.invariant.state
      ∙ rows-next c.args.draws.now.state c.args.first c.loop-k.k _ _ c.loop-k.invariant.text;
  state = (let e : 6 * c.loop-k.k + 6 ≡ 6 * (c.loop-k.k + 1) = omega arith
      in c.add_row.ensures.state
      ∙ ap (λ x. advanced x 6) c.loop-k.invariant.state
      ∙ advanced-add c.args.draws.now.state (6 * c.loop-k.k) 6
      ∙ ap (advanced c.args.draws.now.state) e);
  room = omega arith;
}

pub returns-clause-text : goal.returns-clause-text
returns-clause-text c =
    let k : c.loop-k.k ≡ 200 = omega arith
    in c.loop-k.invariant.text
    ∙ ap (λ l. l ++ rows_text c.args.draws.now.state c.args.first c.loop-k.k) c.add.ensures.text
    ∙ append_assoc c.args.out.now.items _ (rows_text c.args.draws.now.state c.args.first c.loop-k.k)
    ∙ ap (λ n. c.args.out.now.items ++ (codes "1 bulk sales" ++ rows_text c.args.draws.now.state c.args.first n)) k

pub returns-clause-state : goal.returns-clause-state
returns-clause-state c =
    let k : 6 * c.loop-k.k ≡ 1200 = omega arith in c.loop-k.invariant.state ∙ ap (advanced c.args.draws.now.state) k
