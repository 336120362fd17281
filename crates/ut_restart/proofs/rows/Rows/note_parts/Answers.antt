use Rattle.std.proofs.Common.{◌≡◌, ◌<◌, ◌≤◌, ◌+◌, List, [], Bool, length, drop, get_or, refl, sym, ◌∙◌, subst, ap, arith}
use Rattle.ut_l2.specs.KeyRows.{KeyRow}
use Rattle.ut_main.specs.Parts.{PartValue}
use Rattle.ut_image.specs.declared.drawn.PartRef.{PartRef}
use Rattle.ut_restart.specs.Noted.{Noted, part_noted, parts_noted}
use Rattle.ut_restart.proofs.NotedLemmas.{noting-first, noting-last}
use Rattle.ut_restart.proofs.LoopLemmas.{parts-end}
use Rattle.ut_restart.proofs.TurnLemmas.{refs-long, marks-part, part-room, part-turn}
use Rattle.ut_restart.proofs.rows.Rows.note_parts.Goals as goal

pub loop-p-init : goal.loop-p-init
loop-p-init c = noting-first c.args.self.now (parts_noted c.args.table 0 c.args.refs.now c.args.main.now.parts) (parts_noted c.args.table 0 c.args.refs.now c.args.main.now.parts) refl

pub bounds-refs-p : goal.bounds-refs-p
bounds-refs-p c = omega (arith, c.loop-p-test.true, refs-long c.args.refs.now c.args.main.now.parts c.requires.marks)

pub note_part-requires-clause-marks : goal.note_part-requires-clause-marks
note_part-requires-clause-marks c =
    let parts : List (List KeyRow) = c.args.main.now.parts in
    let there : c.loop-p.p < length parts = omega arith in
    let rows-are : c.deref.result.now.rows ≡ get_or parts c.loop-p.p [] = ap (λ (x : PartValue). x.rows) c.deref.ensures ∙ c.part.ensures.rows in
    let live-are : c.as_slice.result.now ≡ c.index-refs-p.result.live = c.as_slice.ensures ∙ ap (λ (r : PartRef). r.live) (sym c.index-refs-p.is) in
    ap length live-are ∙ marks-part c.args.refs.now parts c.loop-p.p c.index-refs-p.result c.requires.marks there c.index-refs-p.is ∙ sym (ap length rows-are)

pub note_part-requires-clause-room : goal.note_part-requires-clause-room
note_part-requires-clause-room c =
    let parts : List (List KeyRow) = c.args.main.now.parts in
    let there : c.loop-p.p < length parts = omega arith in
    let rows-are : c.deref.result.now.rows ≡ get_or parts c.loop-p.p [] = ap (λ (x : PartValue). x.rows) c.deref.ensures ∙ c.part.ensures.rows in
    let live-are : c.as_slice.result.now ≡ c.index-refs-p.result.live = c.as_slice.ensures ∙ ap (λ (r : PartRef). r.live) (sym c.index-refs-p.is) in
    subst (λ (live : List Bool). c.loop-p.self.load + length (part_noted c.args.table c.loop-p.p c.deref.result.now.rows live) ≤ 2147483648) (sym live-are)
    (part-room c.args.self.now c.loop-p.self (parts_noted c.args.table 0 c.args.refs.now parts) c.args.table c.args.refs.now parts c.loop-p.p c.index-refs-p.result c.deref.result.now.rows (omega (arith, there, refs-long c.args.refs.now parts c.requires.marks)) there c.index-refs-p.is
    rows-are c.loop-p.invariant c.requires.room)

pub loop-p-preserved : goal.loop-p-preserved
loop-p-preserved c =
    let parts : List (List KeyRow) = c.args.main.now.parts in
    let there : c.loop-p.p < length parts = omega arith in
    let rows-are : c.deref.result.now.rows ≡ get_or parts c.loop-p.p [] = ap (λ (x : PartValue). x.rows) c.deref.ensures ∙ c.part.ensures.rows in
    let live-are : c.as_slice.result.now ≡ c.index-refs-p.result.live = c.as_slice.ensures ∙ ap (λ (r : PartRef). r.live) (sym c.index-refs-p.is) in
    part-turn c.args.self.now c.loop-p.self (parts_noted c.args.table 0 c.args.refs.now parts) c.args.table c.args.refs.now parts c.loop-p.p c.index-refs-p.result c.deref.result.now.rows (omega (arith, there, refs-long c.args.refs.now parts c.requires.marks)) there c.index-refs-p.is
    rows-are c.loop-p.invariant c.note_part.new.self
    (subst (λ (live : List Bool). Noted c.loop-p.self (part_noted c.args.table c.loop-p.p c.deref.result.now.rows live) c.note_part.new.self) live-are c.in_ok-note_part.ensures)

pub returns : goal.returns
returns c =
    let parts : List (List KeyRow) = c.args.main.now.parts in
    noting-last c.args.self.now c.loop-p.self (parts_noted c.args.table 0 c.args.refs.now parts) (parts_noted c.args.table c.loop-p.p (drop c.loop-p.p c.args.refs.now) (drop c.loop-p.p parts)) c.loop-p.invariant
    (parts-end c.args.table c.args.refs.now parts c.loop-p.p (omega arith))
