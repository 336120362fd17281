use Rattle.std.proofs.Common.{ℕ, ◌≡◌, ◌+◌, ◌<◌, ◌++◌, ◌∷◌, [], length, drop, get_or, ap, subst, ◌∙◌}
use Rattle.std.proofs.lemmas.List.{drop_more}
use Rattle.std.specs.Prelude.{vec_len, vec_capacity, flat_map, sum_by}
use Rattle.ut_reply.specs.Columns.{row_room}
use Rattle.ut_reply.specs.Texts.{tuple_text, tuple_room}
use Rattle.ut_reply.proofs.LoopLemmas.{item_sum, item_comes, takes_room, no_less, one_spare}
use Rattle.ut_reply.proofs.columns.add_by_columns.Goals as goal

pub loop-row-preserved : goal.loop-row-preserved
loop-row-preserved c =
    let rows = c.args.rows.now in
    let columns = c.args.columns.now in
    let i = c.loop-row.row in
    let row = get_or rows i [] in
    let before = c.args.out.now in
    let out = c.loop-row.out in
    let after = c.add_row.new.out in
    let so_far = c.loop-row.invariant in
    let below : i < length rows = subst (λ (n : ℕ). i < n) c.len-row-end.ensures c.loop-row-test.true in
    let read : drop i rows ≡ row ∷ drop (i + 1) rows = drop_more rows i [] below in
    record {
      text = item_comes (λ t. 10 ∷ tuple_text t) rows i row (before.items ++ flat_map (λ t. 10 ∷ tuple_text t) rows) out.items after.items read so_far.text
          (c.add_row.ensures.text ∙ ap (λ them. out.items ++ them) (c.requires.shown.text i below));
      room = takes_room (vec_len before + sum_by (λ t. tuple_room t + 1) rows) (vec_len out) (tuple_room row + 1) (sum_by (λ t. tuple_room t + 1) (drop i rows)) (sum_by (λ t. tuple_room t + 1) (drop (i + 1) rows)) (vec_len after)
          so_far.room (item_sum (λ t. tuple_room t + 1) rows i row read)
          (one_spare (vec_len out) (row_room columns i) (tuple_room row) (vec_len after) c.add_row.ensures.len (c.requires.shown.room i below));
      capacity = no_less (vec_capacity before) (vec_capacity out) (vec_capacity after) so_far.capacity c.add_row.ensures.capacity;
    }
