use Rattle.std.proofs.Common.{◌∙◌, ◌<◌, [], List, ℕ, length, get_or, ap, arith}
use Rattle.std.specs.Arc.{arc_value}
use Rattle.ut_main.specs.Parts.{MainValue, dicts_behind}
use Rattle.ut_merge.specs.Jobs.{new_rows}
use Rattle.ut_merge.proofs.BuildLemmas.{codes-below, codes-few, column-made, column-read, column-stands, columns-more, reach-few, IsRead}
use Rattle.ut_merge.proofs.building.columns_of.Goals as goal
use Rattle.ut_merge.proofs.building.columns_of.Goals.{In_ok-dict}

-- the column's dictionary
read : (c : In_ok-dict) → IsRead c.args.job.now c.loop-column.column c.args.rows.now c.args.staying.now (arc_value c.in_ok-dict.dict)
read c =
    let lt : c.loop-column.column < c.args.job.now.width = omega (arith, c.loop-column-test.true, c.width-column-end.ensures, ap (λ (m : MainValue). m.width) c.main.ensures) in
    column-read c.args.job.now c.loop-column.column c.args.rows.now c.args.staying.now c.index.result.now (arc_value c.in_ok-dict.dict) c.requires.job c.requires.staying c.requires.rows lt c.index.ensures c.in_ok-dict.ensures

pub overflow_add-reach : goal.overflow_add-reach
overflow_add-reach c =
    let job = c.args.job.now in
    let n = c.loop-column.column in
    let here = read (goal.at.overflow_add-reach c).In_ok-dict in
    omega (arith, reach-few job n c.args.rows.now c.args.staying.now (arc_value c.in_ok-dict.dict) here c.keys_in.result c.len.result c.keys_in.ensures (c.len.ensures.len ∙ ap (λ (l : List (List ℕ)). length l) c.deref.ensures))

pub from_codes-requires-clause-below : goal.from_codes-requires-clause-below
from_codes-requires-clause-below c =
    let job = c.args.job.now in
    let n = c.loop-column.column in
    let here = read (goal.at.from_codes-requires-clause-below c).In_ok-dict in
    codes-below job n c.args.rows.now c.args.staying.now (arc_value c.in_ok-dict.dict) here c.index-in-loop-column.result.now c.as_slice-codes.result.now c.index-in-loop-column.ensures c.as_slice-codes.ensures.value c.keys_in.result c.len.result c.keys_in.ensures (c.len.ensures.len ∙ ap (λ (l : List (List ℕ)). length l) c.deref.ensures)

pub from_codes-requires-clause-count : goal.from_codes-requires-clause-count
from_codes-requires-clause-count c =
    let job = c.args.job.now in
    let n = c.loop-column.column in
    let here = read (goal.at.from_codes-requires-clause-count c).In_ok-dict in
    omega (arith, codes-few job n c.args.rows.now c.args.staying.now (arc_value c.in_ok-dict.dict) here c.index-in-loop-column.result.now c.as_slice-codes.result.now c.index-in-loop-column.ensures c.as_slice-codes.ensures.value)

pub column-requires-clause-behind : goal.column-requires-clause-behind
column-requires-clause-behind c =
    let job = c.args.job.now in
    let n = c.loop-column.column in
    let here = read (goal.at.column-requires-clause-behind c).In_ok-dict in
    column-stands job n c.args.rows.now c.args.staying.now (arc_value c.in_ok-dict.dict) here c.index-in-loop-column.result.now c.as_slice-codes.result.now c.index-in-loop-column.ensures c.as_slice-codes.ensures.value c.keys_in.result c.len.result c.keys_in.ensures (c.len.ensures.len ∙ ap (λ (l : List (List ℕ)). length l) c.deref.ensures) c.in_ok-codes.codes c.in_ok-codes.ensures.reach c.in_ok-codes.ensures.codes

pub column-requires-clause-few : goal.column-requires-clause-few
column-requires-clause-few c =
    let job = c.args.job.now in
    let n = c.loop-column.column in
    let here = read (goal.at.column-requires-clause-few c).In_ok-dict in
    omega (arith, codes-few job n c.args.rows.now c.args.staying.now (arc_value c.in_ok-dict.dict) here c.index-in-loop-column.result.now c.as_slice-codes.result.now c.index-in-loop-column.ensures c.as_slice-codes.ensures.value, ap (λ (l : List ℕ). length l) c.in_ok-codes.ensures.codes)

pub loop-column-preserved : goal.loop-column-preserved
loop-column-preserved c =
    let job = c.args.job.now in
    let n = c.loop-column.column in
    let here = read (goal.at.loop-column-preserved c).In_ok-dict in
    let chain = ap (λ (m : MainValue). get_or (dicts_behind m) n []) c.requires.staying in
    columns-more job (new_rows job) n c.loop-column.columns.items c.push.new.self.items c.in_ok-column.field-0 c.loop-column.invariant (c.in_ok-column.ensures.before ∙ chain)
    (c.in_ok-column.ensures.cells ∙ column-made job n c.args.rows.now c.args.staying.now (arc_value c.in_ok-dict.dict) here c.index-in-loop-column.result.now c.as_slice-codes.result.now c.index-in-loop-column.ensures c.as_slice-codes.ensures.value c.keys_in.result c.len.result c.keys_in.ensures (c.len.ensures.len ∙ ap (λ (l : List (List ℕ)). length l) c.deref.ensures) c.in_ok-codes.codes c.in_ok-codes.ensures.reach c.in_ok-codes.ensures.codes) c.in_ok-push.ensures.items
