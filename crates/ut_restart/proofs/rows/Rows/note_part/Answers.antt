use Rattle.std.proofs.Common.{◌<◌, ◌+◌, List, Bool, ℕ, length, drop, refl, sym, subst, arith}
use Rattle.ut_l2.specs.KeyRows.{KeyRow}
use Rattle.ut_stamps.specs.declared.place.Place.TheVariants.{Main}
use Rattle.ut_restart.specs.declared.rows.Rows.{Rows}
use Rattle.ut_restart.specs.Rows.{position}
use Rattle.ut_restart.specs.Noted.{Note, HasNoted, noted, part_cells, part_noted}
use Rattle.ut_restart.proofs.NotedLemmas.{Noting, noting-first, noting-last}
use Rattle.ut_restart.proofs.LoopLemmas.{part-end}
use Rattle.ut_restart.proofs.TurnLemmas.{live-room, live-turn, dead-turn}
use Rattle.ut_restart.proofs.rows.Rows.note_part.Goals.{then-live-i+in_ok-note, else-live-i}
use Rattle.ut_restart.proofs.rows.Rows.note_part.Goals as goal

pub loop-i-init : goal.loop-i-init
loop-i-init c = noting-first c.args.self.now (part_noted c.args.table c.args.p c.args.part.now.rows c.args.live.now) (part_noted c.args.table c.args.p c.args.part.now.rows c.args.live.now) refl

pub note-requires : goal.note-requires
note-requires c =
    let rows : List KeyRow = c.args.part.now.rows in
    let live : List Bool = c.args.live.now in
    live-room c.args.self.now c.loop-i.self (part_noted c.args.table c.args.p rows live) c.args.table c.args.p rows live c.loop-i.i (omega arith) c.requires.marks c.loop-i.invariant c.if-live-i.true c.requires.room

pub loop-i-preserved : goal.loop-i-preserved
loop-i-preserved c =
    let rows : List KeyRow = c.args.part.now.rows in
    let live : List Bool = c.args.live.now in
    let i : ℕ = c.loop-i.i in
    let all : List Note = part_noted c.args.table c.args.p rows live in
    let lt : i < length rows = omega arith in
    let next : List Note = noted c.args.table (Main c.args.p) (i + 1) (part_cells (drop (i + 1) rows) (drop (i + 1) live)) in
    elim c.if-live-i.branch [
      | then-live-i+in_ok-note w ↦
          subst (λ (r : Rows). Noting c.args.self.now all r next) (sym w.self-is)
          (live-turn c.args.self.now c.loop-i.self all c.args.table c.args.p rows live i lt c.requires.marks c.loop-i.invariant w.note.new.self w.if-live-i.true
          (subst (λ (id : ℕ). HasNoted c.loop-i.self id (position c.args.table (Main c.args.p i)) w.note.new.self) w.row_id.ensures w.in_ok-note.ensures))
      | else-live-i w ↦
          subst (λ (r : Rows). Noting c.args.self.now all r next) (sym w.self-is)
          (dead-turn c.args.self.now c.loop-i.self all c.args.table c.args.p rows live i lt c.requires.marks c.loop-i.invariant w.if-live-i.false)
    ]

pub returns : goal.returns
returns c =
    let rows : List KeyRow = c.args.part.now.rows in
    let live : List Bool = c.args.live.now in
    noting-last c.args.self.now c.loop-i.self (part_noted c.args.table c.args.p rows live) (noted c.args.table (Main c.args.p) c.loop-i.i (part_cells (drop c.loop-i.i rows) (drop c.loop-i.i live))) c.loop-i.invariant
    (part-end c.args.table (Main c.args.p) rows live c.loop-i.i (omega arith))
