use Rattle.std.proofs.Common.{List, drop, get_or, refl, sym, subst, arith}
use Rattle.ut_value.specs.declared.value.Row.{Row}
use Rattle.ut_stamps.specs.declared.place.Place.{Place}
use Rattle.ut_restart.specs.Rows.{position}
use Rattle.ut_restart.specs.Noted.{Note, HasNoted, noted, row_cells, place_in, rows_noted}
use Rattle.ut_restart.proofs.NotedLemmas.{noting-first, noting-last}
use Rattle.ut_restart.proofs.LoopLemmas.{rows-long, rows-end}
use Rattle.ut_restart.proofs.TurnLemmas.{rows-room, rows-turn}
use Rattle.ut_restart.proofs.rows.Rows.note_rows.Goals as goal

pub loop-i-init : goal.loop-i-init
loop-i-init c = noting-first c.args.self.now (rows_noted c.args.table c.args.delta c.args.rows.now) (rows_noted c.args.table c.args.delta c.args.rows.now) refl

pub overflow_cast-i-end : goal.overflow_cast-i-end
overflow_cast-i-end c = omega (arith, c.requires, rows-long c.args.table (place_in c.args.delta) 0 c.args.rows.now)

pub note-requires : goal.note-requires
note-requires c =
    rows-room c.args.self.now c.loop-i.self (rows_noted c.args.table c.args.delta c.args.rows.now) c.args.table (place_in c.args.delta) c.args.rows.now c.loop-i.i c.index-rows-i.result (omega arith) c.index-rows-i.is c.loop-i.invariant c.requires

pub loop-i-preserved : goal.loop-i-preserved
loop-i-preserved c =
    rows-turn c.args.self.now c.loop-i.self c.note.new.self (rows_noted c.args.table c.args.delta c.args.rows.now) c.args.table (place_in c.args.delta) c.args.rows.now c.loop-i.i c.index-rows-i.result (omega arith) c.index-rows-i.is c.loop-i.invariant
    (subst (λ (row : Row). HasNoted c.loop-i.self row.id (position c.args.table (place_in c.args.delta c.loop-i.i)) c.note.new.self) (sym c.index-rows-i.is)
    (subst (λ (p : Place). HasNoted c.loop-i.self (get_or c.args.rows.now c.loop-i.i c.index-rows-i.result).id (position c.args.table p) c.note.new.self) c.place_in.ensures c.in_ok-note.ensures))

pub returns : goal.returns
returns c =
    let all : List Note = rows_noted c.args.table c.args.delta c.args.rows.now in
    noting-last c.args.self.now c.loop-i.self all (noted c.args.table (place_in c.args.delta) c.loop-i.i (row_cells (drop c.loop-i.i c.args.rows.now))) c.loop-i.invariant
    (rows-end c.args.table (place_in c.args.delta) c.args.rows.now c.loop-i.i (omega arith))
