use Rattle.std.proofs.Common.{◌+◌, List, ℕ, drop, refl, arith}
use Rattle.ut_image.specs.declared.drawn.Drawn.{Drawn}
use Rattle.ut_restart.specs.Noted.{Note, deltas_noted}
use Rattle.ut_restart.proofs.NotedLemmas.{noting-first, noting-last}
use Rattle.ut_restart.proofs.LoopLemmas.{deltas-end}
use Rattle.ut_restart.proofs.TurnLemmas.{second-room, second-turn, first-room, first-turn}
use Rattle.ut_restart.proofs.rows.Rows.note_deltas.Goals as goal

pub loop-n-init : goal.loop-n-init
loop-n-init c = noting-first c.args.self.now (deltas_noted 0 c.args.tables.now) (deltas_noted 0 c.args.tables.now) refl

pub note_rows-requires : goal.note_rows-requires
note_rows-requires c =
    second-room c.args.self.now c.loop-n.self (deltas_noted 0 c.args.tables.now) c.args.tables.now c.loop-n.n c.index-tables-n.result c.as_slice.result.now (omega arith) c.index-tables-n.is c.as_slice.ensures c.loop-n.invariant c.requires.room

pub note_rows-requires-in-loop-n : goal.note_rows-requires-in-loop-n
note_rows-requires-in-loop-n c =
    let tables : List Drawn = c.args.tables.now in
    let n : ℕ = c.loop-n.n in
    let all : List Note = deltas_noted 0 tables in
    let mid = second-turn c.args.self.now c.loop-n.self all tables n c.index-tables-n.result c.as_slice.result.now (omega arith) c.index-tables-n.is c.as_slice.ensures c.loop-n.invariant c.note_rows.new.self c.in_ok-note_rows.ensures in
    first-room c.args.self.now c.note_rows.new.self all (deltas_noted (n + 1) (drop (n + 1) tables)) n c.as_slice-in-loop-n.result.now c.index-tables-n.result.l1 c.as_slice-in-loop-n.ensures mid c.requires.room

pub loop-n-preserved : goal.loop-n-preserved
loop-n-preserved c =
    let tables : List Drawn = c.args.tables.now in
    let n : ℕ = c.loop-n.n in
    let all : List Note = deltas_noted 0 tables in
    let mid = second-turn c.args.self.now c.loop-n.self all tables n c.index-tables-n.result c.as_slice.result.now (omega arith) c.index-tables-n.is c.as_slice.ensures c.loop-n.invariant c.note_rows.new.self c.in_ok-note_rows.ensures in
    first-turn c.args.self.now c.note_rows.new.self all (deltas_noted (n + 1) (drop (n + 1) tables)) n c.as_slice-in-loop-n.result.now c.index-tables-n.result.l1 c.as_slice-in-loop-n.ensures mid c.note_rows-in-loop-n.new.self c.in_ok-note_rows-2.ensures

pub returns : goal.returns
returns c =
    noting-last c.args.self.now c.loop-n.self (deltas_noted 0 c.args.tables.now) (deltas_noted c.loop-n.n (drop c.loop-n.n c.args.tables.now)) c.loop-n.invariant (deltas-end c.args.tables.now c.loop-n.n (omega arith))
