use Rattle.std.proofs.Common.{ap, ◌∙◌, ◌+◌, ◌%◌}
use Rattle.ut_gen.specs.Draws.{advanced, draw}
use Rattle.ut_gen.proofs.RowLemmas.{four_pieces}
use Rattle.ut_gen.proofs.rows.add_update.Goals as goal

pub returns-clause-text : goal.returns-clause-text
unfolding advanced
returns-clause-text c =
    four_pieces c.args.out.now.items _ _ _ _ _ _ _ _ _ _ c.add.ensures.text c.add_number.ensures.text c.add-2.ensures.text c.add_number-2.ensures.text (ap (λ n. 1 + n) c.below-quantity.ensures.number) (ap (λ n. 1 + n) (c.below-id.ensures.number ∙ ap (λ x. draw x 0 % c.args.rows) c.below-quantity.ensures.state))
