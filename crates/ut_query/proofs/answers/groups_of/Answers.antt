use Rattle.std.proofs.Common.{List, get_or, sym, subst}
use Rattle.ut_scan.specs.declared.place.Found.{Found}
use Rattle.ut_look.specs.Look.{sight}
use Rattle.ut_query.specs.Tells.{Shows}
use Rattle.ut_query.proofs.QuestionLemmas.{selected_group}
use Rattle.ut_query.proofs.RowLemmas.{read}
use Rattle.ut_query.proofs.TellLemmas.{group_within, grouped, tells_groups}
use Rattle.ut_query.proofs.answers.groups_of.Goals as goal

pub group-requires-clause-key : goal.group-requires-clause-key
group-requires-clause-key c =
    let shown = c.in_ok-hits.ensures _ (read c.args.look.now c.args.rows.now c.index-look-rows.result c.requires.looks (selected_group c.args.look.now.tables.now c.args.rows.now c.args.key c.args.sum c.requires.asked)) in
    group_within (sight c.args.look.now) c.args.rows.now _ _ c.args.key c.args.sum shown c.requires.asked

pub group-requires-clause-numbers : goal.group-requires-clause-numbers
group-requires-clause-numbers c =
    let shown = c.in_ok-hits.ensures _ (read c.args.look.now c.args.rows.now c.index-look-rows.result c.requires.looks (selected_group c.args.look.now.tables.now c.args.rows.now c.args.key c.args.sum c.requires.asked)) in
    grouped (sight c.args.look.now) c.args.rows.now _ _ c.args.key c.args.sum c.requires.asked shown

pub group-requires-clause-few : goal.group-requires-clause-few
group-requires-clause-few c =
    let shown = c.in_ok-hits.ensures _ (read c.args.look.now c.args.rows.now c.index-look-rows.result c.requires.looks (selected_group c.args.look.now.tables.now c.args.rows.now c.args.key c.args.sum c.requires.asked)) in
    (subst (λ (fs : List Found). Shows (sight c.args.look.now) c.args.rows.now (get_or c.args.look.now.stages.now c.args.rows.now.table c.index-look-rows.result).stages fs) (sym c.as_slice.ensures.value) shown).few

pub group-requires-clause-fit : goal.group-requires-clause-fit
group-requires-clause-fit c =
    let shown = c.in_ok-hits.ensures _ (read c.args.look.now c.args.rows.now c.index-look-rows.result c.requires.looks (selected_group c.args.look.now.tables.now c.args.rows.now c.args.key c.args.sum c.requires.asked)) in
    (subst (λ (fs : List Found). Shows (sight c.args.look.now) c.args.rows.now (get_or c.args.look.now.stages.now c.args.rows.now.table c.index-look-rows.result).stages fs) (sym c.as_slice.ensures.value) shown).fit

pub returns : goal.returns
returns c =
    let shown = c.in_ok-hits.ensures _ (read c.args.look.now c.args.rows.now c.index-look-rows.result c.requires.looks (selected_group c.args.look.now.tables.now c.args.rows.now c.args.key c.args.sum c.requires.asked)) in
    let given = subst (λ (fs : List Found). Shows (sight c.args.look.now) c.args.rows.now (get_or c.args.look.now.stages.now c.args.rows.now.table c.index-look-rows.result).stages fs) (sym c.as_slice.ensures.value) shown in
    tells_groups (sight c.args.look.now) c.args.rows.now _ _ given c.args.key c.args.sum _ (c.in_ok-groups.ensures c.args.rows.now.table)
