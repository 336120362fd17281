use Rattle.std.proofs.Common.{◌≡◌, length, ap, ◌∙◌, arith, nat_eq}
use Rattle.ut_plain.specs.Tables.{columns_in, place_in}
use Rattle.ut_plain.specs.Rows.{table_rows}
use Rattle.ut_plain.specs.Condition.{found, meets}
use Rattle.ut_plain.specs.declared.reply.Reply.TheVariants as replies
use Rattle.check_rows.proofs.FilterLemmas.{length-filter_le}
use Rattle.check_rows.proofs.answers.count_told.Goals as goal

pub overflow_cast-result : goal.overflow_cast-result
overflow_cast-result c =
    let hits : length c.as_slice-count.result.now ≡ length (found c.args.tables.now c.args.rows.now c.args.name.now c.args.preds.now) = ap length (c.as_slice-count.ensures.value ∙ (c.in_ok-hits.ensures ∙ ap (λ n. found c.args.tables.now c.args.rows.now n c.args.preds.now) c.as_slice.ensures.bytes)) in
    let inner = length-filter_le (λ e. nat_eq e.1.table (place_in c.args.tables.now c.args.name.now)) c.args.rows.now in
    let outer = length-filter_le (λ e. meets (columns_in c.args.tables.now c.args.name.now) c.args.preds.now e.1.values) (table_rows (place_in c.args.tables.now c.args.name.now) c.args.rows.now) in
    omega (arith, hits, inner, outer)

pub returns : goal.returns
returns c = ap (λ (rows : _). replies.Count (length rows)) (c.as_slice-count.ensures.value ∙ (c.in_ok-hits.ensures ∙ ap (λ n. found c.args.tables.now c.args.rows.now n c.args.preds.now) c.as_slice.ensures.bytes))
