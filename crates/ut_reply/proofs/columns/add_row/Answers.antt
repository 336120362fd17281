use Rattle.std.proofs.Common.{◌≡◌, ◌+◌, ◌<◌, ◌++◌, ◌∷◌, length, drop, sym, subst}
use Rattle.std.specs.Prelude.{vec_len, vec_capacity}
use Rattle.ut_reply.specs.Columns.{Led, cell_text, cell_room, row_text, row_room}
use Rattle.ut_reply.proofs.LoopLemmas.{item_read, item_sum, item_comes, has_room, takes_room, no_less}
use Rattle.ut_reply.proofs.columns.add_row.Goals as goal

pub add-requires : goal.add-requires
add-requires c =
    let columns = c.args.columns.now in
    let row = c.args.row in
    let i = c.loop-column.column-index in
    let column = c.column-item.result in
    let before = c.args.out.now in
    let out = c.loop-column.out in
    let below = c.loop-column-test.true in
    let read : drop i columns ≡ column ∷ drop (i + 1) columns = item_read columns i column below c.column-item.is in
    record {
      within = subst (λ (it : Led). row < length it.values) (sym c.column-item.is) (c.requires.within i column below);
      room = has_room (vec_len before) (row_room columns row) (vec_capacity before) (vec_len out) (cell_room row column) (row_room (drop i columns) row) (row_room (drop (i + 1) columns) row) (vec_capacity out)
          c.requires.room c.loop-column.invariant.capacity c.loop-column.invariant.room (item_sum (cell_room row) columns i column read);
    }

pub loop-column-preserved : goal.loop-column-preserved
loop-column-preserved c =
    let columns = c.args.columns.now in
    let row = c.args.row in
    let i = c.loop-column.column-index in
    let column = c.column-item.result in
    let before = c.args.out.now in
    let out = c.loop-column.out in
    let after = c.add.new.out in
    let so_far = c.loop-column.invariant in
    let read : drop i columns ≡ column ∷ drop (i + 1) columns = item_read columns i column c.loop-column-test.true c.column-item.is in
    record {
      text = item_comes (cell_text row) columns i column (before.items ++ row_text columns row) out.items after.items read so_far.text c.add.ensures.text;
      room = takes_room (vec_len before + row_room columns row) (vec_len out) (cell_room row column) (row_room (drop i columns) row) (row_room (drop (i + 1) columns) row) (vec_len after)
          so_far.room (item_sum (cell_room row) columns i column read) c.add.ensures.len;
      capacity = no_less (vec_capacity before) (vec_capacity out) (vec_capacity after) so_far.capacity c.add.ensures.capacity;
    }
