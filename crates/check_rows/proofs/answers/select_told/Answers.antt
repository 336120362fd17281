use Rattle.std.proofs.Common.{ap, ◌∙◌, map}
use Rattle.ut_plain.specs.Tables.{columns_in}
use Rattle.ut_plain.specs.Condition.{found}
use Rattle.ut_plain.specs.Query.{picked}
use Rattle.ut_plain.specs.declared.reply.Reply.TheVariants as replies
use Rattle.check_rows.proofs.answers.select_told.Goals as goal

pub returns : goal.returns
returns c =
    let columns = c.columns_in-columns.ensures ∙ ap (columns_in c.args.tables.now) c.as_slice.ensures.bytes in
    let hits = c.as_slice-3.ensures.value ∙ (c.in_ok-hits.ensures ∙ ap (λ n. found c.args.tables.now c.args.rows.now n c.args.preds.now) c.as_slice-2.ensures.bytes) in
    ap replies.Rows (c.of_lists.ensures ∙ c.in_ok-tuples.ensures ∙ ap (map (λ e. picked c.columns_in-columns.result.now c.args.names.now e.1.values)) hits ∙ ap (λ cs. map (λ e. picked cs c.args.names.now e.1.values) (found c.args.tables.now c.args.rows.now c.args.name.now c.args.preds.now)) columns)
