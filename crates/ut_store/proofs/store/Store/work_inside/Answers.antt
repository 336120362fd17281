use Rattle.std.proofs.Common.{◌+◌, ◌++◌, ◌∷◌, ◌<◌, ◌≡◌, ◌∙◌, List, [], Some, IsTrue, length, map, refl, sym, ap, subst, arith}
use Rattle.std.specs.List.{list_all}
use Rattle.ut_value.specs.declared.entry.Entry.TheVariants.{Txn}
use Rattle.ut_value.specs.declared.entry.Op.{Op}
use Rattle.ut_value.specs.Spelling.{spelling, is_op, ops_len}
use Rattle.ut_plain.specs.Rows.{inserts_of}
use Rattle.ut_staged.specs.Staged.{begun_row, entered_l2}
use Rattle.ut_staged.specs.Staging.{written}
use Rattle.ut_staged.proofs.ListLemmas.{get-within}
use Rattle.ut_table.specs.Finds.{hits_of}
use Rattle.ut_change.specs.Bulks.{bulk_rows}
use Rattle.ut_change.specs.Entering.{insert_of}
use Rattle.ut_change.specs.Writes.{CanWrite}
use Rattle.ut_tables.specs.declared.work.Changes.{Changes}
use Rattle.ut_tables.specs.declared.work.Changes.TheVariants.{Enters, Writes, Loads}
use Rattle.ut_tables.specs.Changed.{CanTake, Changed}
use Rattle.ut_tables.specs.Rows.{HasTable, Rows}
use Rattle.ut_tables.specs.Works.{ops_in, worked}
use Rattle.ut_tables.proofs.LoadLemmas.{can_take_there}
use Rattle.ut_tables.proofs.WorkLemmas.{can_write, changed_as, len_of_one, rule_of_one, worked_by, worked_loads}
use Rattle.ut_txn.specs.Seats.{opened_at, payload_at}
use Rattle.ut_store.specs.Held.{Held}
use Rattle.ut_store.specs.contracts.store.Store.{the_view}
use Rattle.ut_store.proofs.IndexLemmas.{on_err, seat_set_behind, same_room, done_inside}
use Rattle.ut_store.proofs.store.Store.work_inside.Goals as goal

-- no room for the bytes
pub returns-in_err-room-clause-err : goal.returns-in_err-room-clause-err
returns-in_err-room-clause-err c = on_err _ _ (same_room (the_view c.self.inside) _ c.self.inside.rows.rows _ c.self.view_is refl c.in_err-room.ensures.stay)

-- ---- one row

pub room-requires-in-Enters : goal.room-requires-in-Enters
room-requires-in-Enters c = subst (λ (h : Held). c.args.work.place < length h.rows.staged) (sym c.self.view_is) (get-within c.args.self.now.rows.staged c.args.work.place c.requires.can.table c.requires.can.at)

pub returns-in_err-room-in-Enters-clause-err : goal.returns-in_err-room-in-Enters-clause-err
returns-in_err-room-in-Enters-clause-err c = on_err _ _ (same_room (the_view c.self.inside) _ c.room-in-Enters.new.self.rows _ c.self.view_is c.room-in-Enters.ensures.rows c.in_ok-room.ensures.stay)

pub note-requires-clause-rule : goal.note-requires-clause-rule
note-requires-clause-rule c = rule_of_one (ops_in c.args.work.changes) (insert_of c.in-Enters.row) (ap ops_in c.in-Enters.is) c.requires.can.rule

pub note-requires-clause-room : goal.note-requires-clause-room
note-requires-clause-room c =
    let one = len_of_one (ops_in c.args.work.changes) (insert_of c.in-Enters.row) (ap ops_in c.in-Enters.is) in
    let room = c.in_ok-room.ensures.ok in
    omega (arith, one, room, c.requires.bytes)

pub note-requires-clause-size : goal.note-requires-clause-size
note-requires-clause-size c =
    let one = len_of_one (ops_in c.args.work.changes) (insert_of c.in-Enters.row) (ap ops_in c.in-Enters.is) in
    let stays = ap length (c.in_ok-room.ensures.stay.payloads c.args.session) in
    let same = ap (λ (h : Held). length (payload_at h.seats c.args.session)) c.self.view_is in
    omega (arith, one, stays, same, c.requires.bytes, c.requires.size)

pub enter-requires-clause-can : goal.enter-requires-clause-can
enter-requires-clause-can c =
    let row = c.in-Enters.row in
    let can = can_write c.args.self.now.rows c.args.work (Enters row) c.in-Enters.is (record { table = c.requires.can.table; at = c.requires.can.at; has = c.requires.can.write }) in
    subst (λ (r : Rows). HasTable r c.args.work.place (λ s. CanWrite s [] (insert_of row ∷ []))) (sym (c.room-in-Enters.ensures.rows ∙ ap (λ (h : Held). h.rows) c.self.view_is)) can

pub enter-requires-clause-room : goal.enter-requires-clause-room
enter-requires-clause-room c =
    let count : c.args.work.inserts ≡ 1 = c.requires.count ∙ ap (λ (x : Changes). inserts_of (ops_in x)) c.in-Enters.is in
    let room = c.in_ok-room-in-Enters.ensures.ok in
    omega (arith, count, room)

pub returns-in_ok-room-in-Enters-clause-ok : goal.returns-in_ok-room-in-Enters-clause-ok
returns-in_ok-room-in-Enters-clause-ok c =
    let n = c.args.work.place in
    let row = c.in-Enters.row in
    let after = written c.args.opened.number (insert_of row ∷ []) [] in
    let os = ap ops_in c.in-Enters.is in
    done_inside (the_view c.self.inside) _ n c.enter.new.self.rows _ _ _ _ _ _ c.self.view_is
    (changed_as c.self.inside.rows.rows c.enter.new.self.rows n after (worked c.args.work c.args.opened.number) (worked_by c.args.work (Enters row) c.in-Enters.is c.args.opened.number)
    (subst (λ (r : Rows). Changed r n after c.enter.new.self.rows) c.room-in-Enters.ensures.rows c.enter.ensures))
    (ap (λ k. c.self.inside.counts.next_id + k) c.requires.count)
    (λ ps is. c.note.ensures.grown ps (c.in_ok-room.ensures.stay.payloads c.args.session ∙ is) ∙ ap (λ xs. spelling (Txn (ps ++ xs))) (sym os))
    (seat_set_behind _ _ _ c.args.session (Some c.args.opened) _ c.in_ok-room.ensures.stay (ap (λ (h : Held). opened_at h.seats c.args.session) c.self.view_is ∙ c.requires.opened) c.note.ensures.set)

-- ---- operations

pub room-requires-in-Writes : goal.room-requires-in-Writes
room-requires-in-Writes c = subst (λ (h : Held). c.args.work.place < length h.rows.staged) (sym c.self.view_is) (get-within c.args.self.now.rows.staged c.args.work.place c.requires.can.table c.requires.can.at)

pub returns-in_err-room-in-Writes-clause-err : goal.returns-in_err-room-in-Writes-clause-err
returns-in_err-room-in-Writes-clause-err c = on_err _ _ (same_room (the_view c.self.inside) _ c.room-in-Writes.new.self.rows _ c.self.view_is c.room-in-Writes.ensures.rows c.in_ok-room.ensures.stay)

pub note_all-requires-clause-rule : goal.note_all-requires-clause-rule
note_all-requires-clause-rule c = subst (λ (os : List Op). IsTrue (list_all is_op os)) (ap ops_in c.in-Writes.is ∙ sym c.deref.ensures.value) c.requires.can.rule

pub note_all-requires-clause-room : goal.note_all-requires-clause-room
note_all-requires-clause-room c =
    let len = ap ops_len (ap ops_in c.in-Writes.is ∙ sym c.deref.ensures.value) in
    let room = c.in_ok-room.ensures.ok in
    omega (arith, len, room, c.requires.bytes)

pub note_all-requires-clause-size : goal.note_all-requires-clause-size
note_all-requires-clause-size c =
    let len = ap ops_len (ap ops_in c.in-Writes.is ∙ sym c.deref.ensures.value) in
    let stays = ap length (c.in_ok-room.ensures.stay.payloads c.args.session) in
    let same = ap (λ (h : Held). length (payload_at h.seats c.args.session)) c.self.view_is in
    omega (arith, len, stays, same, c.requires.bytes, c.requires.size)

pub write_all-requires-clause-can : goal.write_all-requires-clause-can
write_all-requires-clause-can c =
    let can = can_write c.args.self.now.rows c.args.work (Writes c.in-Writes.hits c.in-Writes.ops) c.in-Writes.is (record { table = c.requires.can.table; at = c.requires.can.at; has = c.requires.can.write }) in
    subst (λ (r : Rows). HasTable r c.args.work.place (λ s. CanWrite s (hits_of c.in-Writes.hits.now) c.in-Writes.ops.items)) (sym (c.room-in-Writes.ensures.rows ∙ ap (λ (h : Held). h.rows) c.self.view_is)) can

pub write_all-requires-clause-room : goal.write_all-requires-clause-room
write_all-requires-clause-room c =
    let count : c.args.work.inserts ≡ inserts_of c.in-Writes.ops.items = c.requires.count ∙ ap (λ (x : Changes). inserts_of (ops_in x)) c.in-Writes.is in
    let room = c.in_ok-room-in-Writes.ensures.ok in
    omega (arith, count, room)

pub returns-in_ok-room-in-Writes-clause-ok : goal.returns-in_ok-room-in-Writes-clause-ok
returns-in_ok-room-in-Writes-clause-ok c =
    let n = c.args.work.place in
    let after = written c.args.opened.number c.in-Writes.ops.items (hits_of c.in-Writes.hits.now) in
    let os = ap ops_in c.in-Writes.is in
    done_inside (the_view c.self.inside) _ n c.write_all.new.self.rows _ _ _ _ _ _ c.self.view_is
    (changed_as c.self.inside.rows.rows c.write_all.new.self.rows n after (worked c.args.work c.args.opened.number) (worked_by c.args.work (Writes c.in-Writes.hits c.in-Writes.ops) c.in-Writes.is c.args.opened.number)
    (subst (λ (r : Rows). Changed r n after c.write_all.new.self.rows) c.room-in-Writes.ensures.rows c.write_all.ensures))
    (ap (λ k. c.self.inside.counts.next_id + k) c.requires.count)
    (λ ps is. c.note_all.ensures.grown ps (c.in_ok-room.ensures.stay.payloads c.args.session ∙ is) ∙ ap (λ xs. spelling (Txn (ps ++ xs))) (c.deref.ensures.value ∙ sym os))
    (seat_set_behind _ _ _ c.args.session (Some c.args.opened) _ c.in_ok-room.ensures.stay (ap (λ (h : Held). opened_at h.seats c.args.session) c.self.view_is ∙ c.requires.opened) c.note_all.ensures.set)

-- ---- rows that are loaded

pub load-requires-clause-can : goal.load-requires-clause-can
load-requires-clause-can c = (c.requires.loads c.in-Loads.bulk c.in-Loads.is).0

pub load-requires-clause-takes : goal.load-requires-clause-takes
load-requires-clause-takes c =
    let can = can_write c.args.self.now.rows c.args.work (Loads c.in-Loads.bulk) c.in-Loads.is (record { table = c.requires.can.table; at = c.requires.can.at; has = c.requires.can.write }) in
    subst (λ (h : Held). HasTable h.rows c.args.work.place (CanTake c.in-Loads.bulk)) (sym c.self.view_is)
    (can_take_there c.args.self.now.rows c.args.work.place [] c.in-Loads.bulk can (c.requires.loads c.in-Loads.bulk c.in-Loads.is).1)

pub returns-in_err-load-in-Loads-clause-err : goal.returns-in_err-load-in-Loads-clause-err
returns-in_err-load-in-Loads-clause-err c = on_err _ _ (same_room (the_view c.self.inside) _ c.load.new.self.rows _ c.self.view_is c.in_err-load-in-Loads.ensures.err c.in_ok-room.ensures.stay)

pub note-requires-in-Loads-clause-is : goal.note-requires-in-Loads-clause-is
note-requires-in-Loads-clause-is c = (c.requires.loads c.in-Loads.bulk c.in-Loads.is).0

pub note-requires-in-Loads-clause-room : goal.note-requires-in-Loads-clause-room
note-requires-in-Loads-clause-room c =
    let len = ap ops_len (ap ops_in c.in-Loads.is) in
    let room = c.in_ok-room.ensures.ok in
    omega (arith, len, room, c.requires.bytes)

pub note-requires-in-Loads-clause-size : goal.note-requires-in-Loads-clause-size
note-requires-in-Loads-clause-size c =
    let len = ap ops_len (ap ops_in c.in-Loads.is) in
    let stays = ap length (c.in_ok-room.ensures.stay.payloads c.args.session) in
    let same = ap (λ (h : Held). length (payload_at h.seats c.args.session)) c.self.view_is in
    omega (arith, len, stays, same, c.requires.bytes, c.requires.size)

pub returns-in_ok-load-in-Loads-clause-ok : goal.returns-in_ok-load-in-Loads-clause-ok
returns-in_ok-load-in-Loads-clause-ok c =
    let n = c.args.work.place in
    let b = c.in-Loads.bulk in
    let os = ap ops_in c.in-Loads.is in
    done_inside (the_view c.self.inside) _ n c.load.new.self.rows _ _ _ _ _ _ c.self.view_is
    (changed_as c.self.inside.rows.rows c.load.new.self.rows n (entered_l2 (map (begun_row c.args.opened.number) (bulk_rows b))) (worked c.args.work c.args.opened.number) (worked_loads c.args.work b c.in-Loads.is c.args.opened.number) c.in_ok-load-in-Loads.ensures.ok)
    (ap (λ k. c.self.inside.counts.next_id + k) c.requires.count)
    (λ ps is. c.note-in-Loads.ensures.grown ps (c.in_ok-room.ensures.stay.payloads c.args.session ∙ is) ∙ ap (λ xs. spelling (Txn (ps ++ xs))) (sym os))
    (seat_set_behind _ _ _ c.args.session (Some c.args.opened) _ c.in_ok-room.ensures.stay (ap (λ (h : Held). opened_at h.seats c.args.session) c.self.view_is ∙ c.requires.opened) c.note-in-Loads.ensures.set)
