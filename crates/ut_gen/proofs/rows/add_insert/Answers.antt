use Rattle.std.proofs.Common.{◌++◌, ap, ◌∙◌, append_assoc}
use Rattle.ut_gen.specs.Rows.{row_text}
use Rattle.ut_gen.proofs.rows.add_insert.Goals as goal

pub returns-clause-text : goal.returns-clause-text
returns-clause-text c =
    c.add_row.ensures.text
    ∙ ap (λ l. l ++ row_text c.args.draws.now.state c.args.row) c.add.ensures.text
    ∙ append_assoc c.args.out.now.items _ (row_text c.args.draws.now.state c.args.row)
