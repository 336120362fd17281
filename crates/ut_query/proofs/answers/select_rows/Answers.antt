use Rattle.std.proofs.Common.{List, get_or, sym, subst}
use Rattle.ut_scan.specs.declared.place.Found.{Found}
use Rattle.ut_look.specs.Look.{sight}
use Rattle.ut_query.specs.Tells.{Shows}
use Rattle.ut_query.proofs.QuestionLemmas.{selected_select}
use Rattle.ut_query.proofs.RowLemmas.{read}
use Rattle.ut_query.proofs.TellLemmas.{select_within, tells_select}
use Rattle.ut_query.proofs.answers.select_rows.Goals as goal

pub select-requires-clause-places : goal.select-requires-clause-places
select-requires-clause-places c =
    let shown = c.in_ok-hits.ensures _ (read c.args.look.now c.args.rows.now c.index-look-rows.result c.requires.looks (selected_select c.args.look.now.tables.now c.args.rows.now c.args.columns.now c.requires.asked)) in
    select_within (sight c.args.look.now) c.args.rows.now _ _ c.args.columns.now shown c.requires.asked

pub select-requires-clause-fit : goal.select-requires-clause-fit
select-requires-clause-fit c =
    let shown = c.in_ok-hits.ensures _ (read c.args.look.now c.args.rows.now c.index-look-rows.result c.requires.looks (selected_select c.args.look.now.tables.now c.args.rows.now c.args.columns.now c.requires.asked)) in
    (subst (λ (fs : List Found). Shows (sight c.args.look.now) c.args.rows.now (get_or c.args.look.now.stages.now c.args.rows.now.table c.index-look-rows.result).stages fs) (sym c.as_slice.ensures.value) shown).fit

pub returns : goal.returns
returns c =
    let shown = c.in_ok-hits.ensures _ (read c.args.look.now c.args.rows.now c.index-look-rows.result c.requires.looks (selected_select c.args.look.now.tables.now c.args.rows.now c.args.columns.now c.requires.asked)) in
    let given = subst (λ (fs : List Found). Shows (sight c.args.look.now) c.args.rows.now (get_or c.args.look.now.stages.now c.args.rows.now.table c.index-look-rows.result).stages fs) (sym c.as_slice.ensures.value) shown in
    tells_select (sight c.args.look.now) c.args.rows.now _ _ given c.args.columns.now _ (c.in_ok-rows.ensures c.args.rows.now.table)
