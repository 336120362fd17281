use Rattle.std.proofs.Common.{List, length, map, drop, refl, ◌∙◌, ap, arith}
use Rattle.ut_image.specs.declared.drawn.PartRef.{PartRef}
use Rattle.ut_restart.specs.Shown.{marks_of}
use Rattle.ut_restart.specs.Noted.{mains_noted}
use Rattle.ut_restart.proofs.NotedLemmas.{noting-first, noting-last}
use Rattle.ut_restart.proofs.ShownLemmas.{shown-long, marks-at}
use Rattle.ut_restart.proofs.LoopLemmas.{mains-end}
use Rattle.ut_restart.proofs.TurnLemmas.{main-room, main-turn}
use Rattle.ut_restart.proofs.rows.Rows.note_mains.Goals as goal

pub loop-n-init : goal.loop-n-init
loop-n-init c = noting-first c.args.self.now (mains_noted 0 c.args.tables.now c.args.mains.now) (mains_noted 0 c.args.tables.now c.args.mains.now) refl

pub bounds-mains-n : goal.bounds-mains-n
bounds-mains-n c = omega (arith, c.loop-n-test.true, shown-long c.args.tables.now c.args.mains.now c.requires.shown.0 c.requires.shown.1)

pub note_parts-requires-clause-marks : goal.note_parts-requires-clause-marks
note_parts-requires-clause-marks c =
    ap (λ (refs : List PartRef). map length (marks_of refs)) c.as_slice.ensures
    ∙ marks-at c.args.tables.now c.args.mains.now c.requires.shown.0 c.loop-n.n c.index-tables-n.result c.index-mains-n.result c.requires.shown.1 (omega arith) c.index-tables-n.is c.index-mains-n.is

pub note_parts-requires-clause-room : goal.note_parts-requires-clause-room
note_parts-requires-clause-room c =
    let long = shown-long c.args.tables.now c.args.mains.now c.requires.shown.0 c.requires.shown.1 in
    main-room c.args.self.now c.loop-n.self (mains_noted 0 c.args.tables.now c.args.mains.now) c.args.tables.now c.args.mains.now c.loop-n.n c.index-tables-n.result c.index-mains-n.result c.as_slice.result.now (omega arith) (omega (arith, long)) c.index-tables-n.is c.index-mains-n.is
    c.as_slice.ensures c.loop-n.invariant c.requires.room

pub loop-n-preserved : goal.loop-n-preserved
loop-n-preserved c =
    let long = shown-long c.args.tables.now c.args.mains.now c.requires.shown.0 c.requires.shown.1 in
    main-turn c.args.self.now c.loop-n.self (mains_noted 0 c.args.tables.now c.args.mains.now) c.args.tables.now c.args.mains.now c.loop-n.n c.index-tables-n.result c.index-mains-n.result c.as_slice.result.now (omega arith) (omega (arith, long)) c.index-tables-n.is c.index-mains-n.is
    c.as_slice.ensures c.loop-n.invariant c.note_parts.new.self c.in_ok-note_parts.ensures

pub returns : goal.returns
returns c =
    noting-last c.args.self.now c.loop-n.self (mains_noted 0 c.args.tables.now c.args.mains.now) (mains_noted c.loop-n.n (drop c.loop-n.n c.args.tables.now) (drop c.loop-n.n c.args.mains.now)) c.loop-n.invariant
    (mains-end c.args.tables.now c.args.mains.now c.loop-n.n (omega arith))
