use Rattle.std.proofs.Common.{◌≡◌, ◌∙◌, arith, get_or, of_z, to_z}
use Rattle.std.proofs.lemmas.Int.{ints, to_z-of_z}
use Rattle.std.specs.Int.{w128}
use Rattle.ut_look.specs.Look.{sight}
use Rattle.ut_query.proofs.QuestionLemmas.{selected_sum}
use Rattle.ut_query.proofs.RowLemmas.{read}
use Rattle.ut_query.proofs.ShowLemmas.{columns_are}
use Rattle.ut_query.proofs.TellLemmas.{sum_within, summed, tells_tally}
use Rattle.ut_query.proofs.answers.sum_of_codes.Goals as goal

pub tally-requires-clause-column : goal.tally-requires-clause-column
tally-requires-clause-column c = λ s at. sum_within (sight c.args.look.now) c.args.rows.now s c.args.column c.requires.asked (columns_are (sight c.args.look.now) c.args.rows.now s c.requires.looks at)

pub sum_tally-requires-clause-numbers : goal.sum_tally-requires-clause-numbers
sum_tally-requires-clause-numbers c =
    let shown = c.in_ok-tally.ensures.tally _ (read c.args.look.now c.args.rows.now c.index-look-rows.result c.requires.looks (selected_sum c.args.look.now.tables.now c.args.rows.now c.args.column c.requires.asked)) in
    summed (sight c.args.look.now) c.args.rows.now (get_or c.args.look.now.stages.now c.args.rows.now.table c.index-look-rows.result).stages c.args.column c.requires.asked shown.columns

pub sum_tally-requires-clause-few : goal.sum_tally-requires-clause-few
sum_tally-requires-clause-few c = (c.in_ok-tally.ensures.tally _ (read c.args.look.now c.args.rows.now c.index-look-rows.result c.requires.looks (selected_sum c.args.look.now.tables.now c.args.rows.now c.args.column c.requires.asked))).few

pub sum_tally-requires-clause-fit : goal.sum_tally-requires-clause-fit
sum_tally-requires-clause-fit c = (c.in_ok-tally.ensures.tally _ (read c.args.look.now c.args.rows.now c.index-look-rows.result c.requires.looks (selected_sum c.args.look.now.tables.now c.args.rows.now c.args.column c.requires.asked))).fit

pub returns : goal.returns
returns c =
    let shown = c.in_ok-tally.ensures.tally _ (read c.args.look.now c.args.rows.now c.index-look-rows.result c.requires.looks (selected_sum c.args.look.now.tables.now c.args.rows.now c.args.column c.requires.asked)) in
    let same : to_z w128 (of_z w128 c.in_ok-total.total) ≡ c.in_ok-total.total = grind (arith, ints, to_z-of_z) in
    tells_tally (sight c.args.look.now) c.args.rows.now _ c.args.column _ _ _ shown (λ name found at fit is. same ∙ c.in_ok-total.ensures c.args.rows.now.table name found at fit is)
