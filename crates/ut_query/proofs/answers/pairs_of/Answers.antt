use Rattle.std.proofs.Common.{List, get_or, sym, subst}
use Rattle.ut_scan.specs.declared.place.Found.{Found}
use Rattle.ut_look.specs.Look.{sight}
use Rattle.ut_query.specs.Tells.{Shows}
use Rattle.ut_query.proofs.QuestionLemmas.{selected_left, selected_right}
use Rattle.ut_query.proofs.RowLemmas.{read}
use Rattle.ut_query.proofs.TellLemmas.{left_within, right_within, tells_pairs}
use Rattle.ut_query.proofs.answers.pairs_of.Goals as goal

pub join-requires-clause-left_column : goal.join-requires-clause-left_column
join-requires-clause-left_column c =
    let shown = c.in_ok-left_hits.ensures _ (read c.args.look.now c.all_of-lefts.result c.index-look-lefts.result c.requires.looks (selected_left c.args.look.now.tables.now c.args.left c.args.left_column c.args.right c.args.right_column c.all_of-lefts.result c.requires.asked c.all_of-lefts.ensures.table c.all_of-lefts.ensures.all)) in
    left_within (sight c.args.look.now) c.all_of-lefts.result _ _ c.args.left c.args.left_column c.args.right c.args.right_column shown c.all_of-lefts.ensures.table c.all_of-lefts.ensures.all c.requires.asked

pub join-requires-clause-left_fit : goal.join-requires-clause-left_fit
join-requires-clause-left_fit c =
    let shown = c.in_ok-left_hits.ensures _ (read c.args.look.now c.all_of-lefts.result c.index-look-lefts.result c.requires.looks (selected_left c.args.look.now.tables.now c.args.left c.args.left_column c.args.right c.args.right_column c.all_of-lefts.result c.requires.asked c.all_of-lefts.ensures.table c.all_of-lefts.ensures.all)) in
    (subst (λ (fs : List Found). Shows (sight c.args.look.now) c.all_of-lefts.result (get_or c.args.look.now.stages.now c.all_of-lefts.result.table c.index-look-lefts.result).stages fs) (sym c.as_slice.ensures.value) shown).fit

pub join-requires-clause-right_column : goal.join-requires-clause-right_column
join-requires-clause-right_column c =
    let shown = c.in_ok-right_hits.ensures _ (read c.args.look.now c.all_of-rights.result c.index-look-rights.result c.requires.looks (selected_right c.args.look.now.tables.now c.args.left c.args.left_column c.args.right c.args.right_column c.all_of-rights.result c.requires.asked c.all_of-rights.ensures.table c.all_of-rights.ensures.all)) in
    right_within (sight c.args.look.now) c.all_of-rights.result _ _ c.args.left c.args.left_column c.args.right c.args.right_column shown c.all_of-rights.ensures.table c.all_of-rights.ensures.all c.requires.asked

pub join-requires-clause-right_fit : goal.join-requires-clause-right_fit
join-requires-clause-right_fit c =
    let shown = c.in_ok-right_hits.ensures _ (read c.args.look.now c.all_of-rights.result c.index-look-rights.result c.requires.looks (selected_right c.args.look.now.tables.now c.args.left c.args.left_column c.args.right c.args.right_column c.all_of-rights.result c.requires.asked c.all_of-rights.ensures.table c.all_of-rights.ensures.all)) in
    (subst (λ (fs : List Found). Shows (sight c.args.look.now) c.all_of-rights.result (get_or c.args.look.now.stages.now c.all_of-rights.result.table c.index-look-rights.result).stages fs) (sym c.as_slice-2.ensures.value) shown).fit

pub returns : goal.returns
returns c =
    let lefts = subst (λ (fs : List Found). Shows (sight c.args.look.now) c.all_of-lefts.result (get_or c.args.look.now.stages.now c.all_of-lefts.result.table c.index-look-lefts.result).stages fs) (sym c.as_slice.ensures.value) (c.in_ok-left_hits.ensures _ (read c.args.look.now c.all_of-lefts.result c.index-look-lefts.result c.requires.looks (selected_left c.args.look.now.tables.now c.args.left c.args.left_column c.args.right c.args.right_column c.all_of-lefts.result c.requires.asked c.all_of-lefts.ensures.table c.all_of-lefts.ensures.all))) in
    let rights = subst (λ (fs : List Found). Shows (sight c.args.look.now) c.all_of-rights.result (get_or c.args.look.now.stages.now c.all_of-rights.result.table c.index-look-rights.result).stages fs) (sym c.as_slice-2.ensures.value) (c.in_ok-right_hits.ensures _ (read c.args.look.now c.all_of-rights.result c.index-look-rights.result c.requires.looks (selected_right c.args.look.now.tables.now c.args.left c.args.left_column c.args.right c.args.right_column c.all_of-rights.result c.requires.asked c.all_of-rights.ensures.table c.all_of-rights.ensures.all))) in
    tells_pairs (sight c.args.look.now) c.all_of-lefts.result c.all_of-rights.result _ _ _ _ c.args.left c.args.left_column c.args.right c.args.right_column _ c.all_of-lefts.ensures.table c.all_of-rights.ensures.table c.all_of-lefts.ensures.all c.all_of-rights.ensures.all lefts rights
    (c.in_ok-rows.ensures c.all_of-lefts.result.table c.all_of-rights.result.table)
