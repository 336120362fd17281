use Rattle.std.proofs.Common.{List, get_or, sym, subst}
use Rattle.ut_scan.specs.declared.place.Found.{Found}
use Rattle.ut_look.specs.Look.{sight}
use Rattle.ut_names.specs.declared.resolved.Question.TheVariants as questions
use Rattle.ut_query.specs.Tells.{Shows, Tells}
use Rattle.ut_query.proofs.QuestionLemmas.{selected_extreme}
use Rattle.ut_query.proofs.RowLemmas.{read}
use Rattle.ut_query.proofs.TellLemmas.{extreme_within, tells_extreme}
use Rattle.ut_query.proofs.answers.extreme_of.Goals as goal

pub extreme-requires-clause-column : goal.extreme-requires-clause-column
extreme-requires-clause-column c =
    let shown = c.in_ok-hits.ensures _ (read c.args.look.now c.args.rows.now c.index-look-rows.result c.requires.looks (selected_extreme c.args.look.now.tables.now c.args.rows.now c.args.column c.args.end c.requires.asked)) in
    extreme_within (sight c.args.look.now) c.args.rows.now _ _ c.args.column c.args.end shown c.requires.asked

pub extreme-requires-clause-fit : goal.extreme-requires-clause-fit
extreme-requires-clause-fit c =
    let shown = c.in_ok-hits.ensures _ (read c.args.look.now c.args.rows.now c.index-look-rows.result c.requires.looks (selected_extreme c.args.look.now.tables.now c.args.rows.now c.args.column c.args.end c.requires.asked)) in
    (subst (λ (fs : List Found). Shows (sight c.args.look.now) c.args.rows.now (get_or c.args.look.now.stages.now c.args.rows.now.table c.index-look-rows.result).stages fs) (sym c.as_slice.ensures.value) shown).fit

pub returns : goal.returns
returns c =
    let shown = c.in_ok-hits.ensures _ (read c.args.look.now c.args.rows.now c.index-look-rows.result c.requires.looks (selected_extreme c.args.look.now.tables.now c.args.rows.now c.args.column c.args.end c.requires.asked)) in
    let given = subst (λ (fs : List Found). Shows (sight c.args.look.now) c.args.rows.now (get_or c.args.look.now.stages.now c.args.rows.now.table c.index-look-rows.result).stages fs) (sym c.as_slice.ensures.value) shown in
    subst (Tells (sight c.args.look.now) (questions.Extreme c.args.rows.now c.args.column c.args.end)) (sym c.extreme_reply.ensures)
    (tells_extreme (sight c.args.look.now) c.args.rows.now _ _ given c.args.column c.args.end _ (c.in_ok-value.ensures c.args.rows.now.table))
