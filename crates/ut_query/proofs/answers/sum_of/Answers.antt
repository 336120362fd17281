use Rattle.std.proofs.Common.{◌≡◌, ◌∙◌, List, arith, get_or, of_z, sym, subst, to_z}
use Rattle.std.proofs.lemmas.Int.{ints, to_z-of_z}
use Rattle.std.specs.Int.{w128}
use Rattle.ut_scan.specs.declared.place.Found.{Found}
use Rattle.ut_look.specs.Look.{sight}
use Rattle.ut_query.specs.Tells.{Shows}
use Rattle.ut_query.proofs.QuestionLemmas.{selected_sum}
use Rattle.ut_query.proofs.RowLemmas.{read}
use Rattle.ut_query.proofs.ShowLemmas.{columns_are}
use Rattle.ut_query.proofs.TellLemmas.{sum_within, summed, tells_sum}
use Rattle.ut_query.proofs.answers.sum_of.Goals as goal

pub tallied_column-requires : goal.tallied_column-requires
tallied_column-requires c =
    let at = read c.args.look.now c.args.rows.now c.index-look-rows.result c.requires.looks (selected_sum c.args.look.now.tables.now c.args.rows.now c.args.column c.requires.asked) in
    sum_within (sight c.args.look.now) c.args.rows.now (get_or c.args.look.now.stages.now c.args.rows.now.table c.index-look-rows.result).stages c.args.column c.requires.asked (columns_are (sight c.args.look.now) c.args.rows.now (get_or c.args.look.now.stages.now c.args.rows.now.table c.index-look-rows.result).stages c.requires.looks at)

pub sum-total-requires-clause-numbers : goal.sum-total-requires-clause-numbers
sum-total-requires-clause-numbers c =
    let at = read c.args.look.now c.args.rows.now c.index-look-rows.result c.requires.looks (selected_sum c.args.look.now.tables.now c.args.rows.now c.args.column c.requires.asked) in
    summed (sight c.args.look.now) c.args.rows.now (get_or c.args.look.now.stages.now c.args.rows.now.table c.index-look-rows.result).stages c.args.column c.requires.asked (columns_are (sight c.args.look.now) c.args.rows.now (get_or c.args.look.now.stages.now c.args.rows.now.table c.index-look-rows.result).stages c.requires.looks at)

pub sum-total-requires-clause-few : goal.sum-total-requires-clause-few
sum-total-requires-clause-few c =
    let shown = c.in_ok-hits.ensures _ (read c.args.look.now c.args.rows.now c.index-look-rows.result c.requires.looks (selected_sum c.args.look.now.tables.now c.args.rows.now c.args.column c.requires.asked)) in
    (subst (λ (fs : List Found). Shows (sight c.args.look.now) c.args.rows.now (get_or c.args.look.now.stages.now c.args.rows.now.table c.index-look-rows.result).stages fs) (sym c.as_slice.ensures.value) shown).few

pub sum-total-requires-clause-fit : goal.sum-total-requires-clause-fit
sum-total-requires-clause-fit c =
    let shown = c.in_ok-hits.ensures _ (read c.args.look.now c.args.rows.now c.index-look-rows.result c.requires.looks (selected_sum c.args.look.now.tables.now c.args.rows.now c.args.column c.requires.asked)) in
    (subst (λ (fs : List Found). Shows (sight c.args.look.now) c.args.rows.now (get_or c.args.look.now.stages.now c.args.rows.now.table c.index-look-rows.result).stages fs) (sym c.as_slice.ensures.value) shown).fit

pub returns : goal.returns
returns c =
    let shown = c.in_ok-hits.ensures _ (read c.args.look.now c.args.rows.now c.index-look-rows.result c.requires.looks (selected_sum c.args.look.now.tables.now c.args.rows.now c.args.column c.requires.asked)) in
    let given = subst (λ (fs : List Found). Shows (sight c.args.look.now) c.args.rows.now (get_or c.args.look.now.stages.now c.args.rows.now.table c.index-look-rows.result).stages fs) (sym c.as_slice.ensures.value) shown in
    let same : to_z w128 (of_z w128 c.sum-total.result) ≡ c.sum-total.result = grind (arith, ints, to_z-of_z) in
    tells_sum (sight c.args.look.now) c.args.rows.now _ _ given c.args.column _ (λ name at. same ∙ c.sum-total.ensures c.args.rows.now.table name at)
