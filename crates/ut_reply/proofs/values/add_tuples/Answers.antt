use Rattle.std.proofs.Common.{◌≡◌, ◌+◌, [], drop, get_or, arith}
use Rattle.std.proofs.lemmas.List.Sums.{sum_by-drop_more}
use Rattle.std.specs.Prelude.{sum_by}
use Rattle.ut_reply.specs.Texts.{tuple_room}
use Rattle.ut_reply.proofs.values.add_tuples.Goals as goal

pub add-requires : goal.add-requires
add-requires c =
    let rows = c.args.rows.now in
    let i = c.loop-row.row in
    let room : sum_by (λ t. tuple_room t + 1) (drop i rows) ≡ tuple_room (get_or rows i []) + 1 + sum_by (λ t. tuple_room t + 1) (drop (i + 1) rows) = sum_by-drop_more (λ t. tuple_room t + 1) rows i [] (omega arith) in
    omega arith
