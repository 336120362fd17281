use Rattle.std.proofs.Common.{[], ap, ◌∙◌}
use Rattle.ut_plain.specs.Tables.{columns_in}
use Rattle.ut_plain.specs.Condition.{found}
use Rattle.ut_plain.specs.Query.{joined}
use Rattle.ut_plain.specs.declared.reply.Reply.TheVariants as replies
use Rattle.check_rows.proofs.answers.join_told.Goals as goal

pub returns : goal.returns
returns c =
    let left = c.columns_in-left_columns.ensures ∙ ap (columns_in c.args.tables.now) c.as_slice.ensures.bytes in
    let right = c.columns_in-right_columns.ensures ∙ ap (columns_in c.args.tables.now) c.as_slice-2.ensures.bytes in
    let lefts = c.as_slice-6.ensures.value ∙ (c.in_ok-lefts.ensures ∙ ap (λ n. found c.args.tables.now c.args.rows.now n []) c.as_slice-3.ensures.bytes) in
    let rights = c.as_slice-8.ensures.value ∙ (c.in_ok-rights.ensures ∙ ap (λ n. found c.args.tables.now c.args.rows.now n []) c.as_slice-4.ensures.bytes) in
    ap replies.Rows (c.of_lists.ensures ∙ c.in_ok-tuples.ensures ∙ (λ i. joined (left i) (c.as_slice-5.ensures.bytes i) (lefts i) (right i) (c.as_slice-7.ensures.bytes i) (rights i)))
