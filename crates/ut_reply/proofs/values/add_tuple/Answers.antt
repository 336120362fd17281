use Rattle.std.proofs.Common.{◌≡◌, ◌+◌, ◌++◌, ◌∷◌, [], ap, drop, get_or, arith}
use Rattle.std.proofs.lemmas.Grind.{common_steps}
use Rattle.std.proofs.lemmas.List.Sums.{sum_by-drop_more}
use Rattle.ut_reply.specs.Texts.{value_text, more_text, tuple_text, value_room, tuple_room}
use Rattle.ut_reply.proofs.RowLemmas.{drop_read, sum_read, text_read}
use Rattle.ut_reply.proofs.values.add_tuple.Goals as goal

pub add_value-requires : goal.add_value-requires
add_value-requires c =
    let xs = get_or c.args.rows.now c.args.row [] in
    let room : tuple_room xs ≡ value_room c.value.result.now + 1 + tuple_room (drop 1 xs) = sum_read (λ v. value_room v + 1) xs 0 c.value.result.now c.value.ensures in
    omega arith

pub loop-column-init : goal.loop-column-init
loop-column-init c =
    let xs = get_or c.args.rows.now c.args.row [] in
    let room : tuple_room xs ≡ value_room c.value.result.now + 1 + tuple_room (drop 1 xs) = sum_read (λ v. value_room v + 1) xs 0 c.value.result.now c.value.ensures in
    let text : tuple_text xs ≡ value_text c.value.result.now ++ more_text (drop 1 xs) = ap (λ vs. tuple_text vs) (drop_read xs 0 c.value.result.now c.value.ensures) in
    grind (arith, common_steps)

pub add-requires : goal.add-requires
add-requires c =
    let xs = get_or c.args.rows.now c.args.row [] in
    let i = c.loop-column.column in
    let v = c.value.result.now in
    let room : tuple_room (drop i xs) ≡ value_room (get_or xs i v) + 1 + tuple_room (drop (i + 1) xs) = sum_by-drop_more (λ v. value_room v + 1) xs i v (omega arith) in
    omega arith

pub add_value-requires-in-loop-column : goal.add_value-requires-in-loop-column
add_value-requires-in-loop-column c =
    let xs = get_or c.args.rows.now c.args.row [] in
    let i = c.loop-column.column in
    let v = c.value-in-loop-column.result.now in
    let room : tuple_room (drop i xs) ≡ value_room v + 1 + tuple_room (drop (i + 1) xs) = sum_read (λ v. value_room v + 1) xs i v c.value-in-loop-column.ensures in
    omega arith

pub loop-column-preserved : goal.loop-column-preserved
loop-column-preserved c =
    let xs = get_or c.args.rows.now c.args.row [] in
    let i = c.loop-column.column in
    let v = c.value-in-loop-column.result.now in
    let room : tuple_room (drop i xs) ≡ value_room v + 1 + tuple_room (drop (i + 1) xs) = sum_read (λ v. value_room v + 1) xs i v c.value-in-loop-column.ensures in
    let text : more_text (drop i xs) ≡ (32 ∷ value_text v) ++ more_text (drop (i + 1) xs) = text_read (λ v. 32 ∷ value_text v) xs i v c.value-in-loop-column.ensures in
    grind (arith, common_steps)
