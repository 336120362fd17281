use Rattle.std.proofs.Common.{ap, ◌∙◌}
use Rattle.ut_plain.specs.Tables.{columns_in}
use Rattle.ut_plain.specs.Condition.{found}
use Rattle.ut_plain.specs.Query.{groups}
use Rattle.ut_plain.specs.declared.reply.Reply.TheVariants as replies
use Rattle.check_rows.proofs.answers.group_told.Goals as goal

pub returns : goal.returns
returns c =
    let columns = c.columns_in-columns.ensures ∙ ap (columns_in c.args.tables.now) c.as_slice.ensures.bytes in
    let hits = c.as_slice-5.ensures.value ∙ (c.in_ok-hits.ensures ∙ ap (λ n. found c.args.tables.now c.args.rows.now n c.args.preds.now) c.as_slice-2.ensures.bytes) in
    ap replies.Groups (c.in_ok-said.ensures ∙ ap (groups c.columns_in-columns.result.now c.as_slice-3.result.now c.as_slice-4.result.now) hits
    ∙ ap (λ cs. groups cs c.as_slice-3.result.now c.as_slice-4.result.now (found c.args.tables.now c.args.rows.now c.args.name.now c.args.preds.now)) columns
    ∙ ap (λ k. groups (columns_in c.args.tables.now c.args.name.now) k c.as_slice-4.result.now (found c.args.tables.now c.args.rows.now c.args.name.now c.args.preds.now)) c.as_slice-3.ensures.bytes
    ∙ ap (λ s. groups (columns_in c.args.tables.now c.args.name.now) c.args.key.now s (found c.args.tables.now c.args.rows.now c.args.name.now c.args.preds.now)) c.as_slice-4.ensures.bytes)
