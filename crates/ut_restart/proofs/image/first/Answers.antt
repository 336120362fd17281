use Rattle.std.proofs.Common.{List, length, refl, sym, ap, subst, arith}
use Rattle.std.proofs.lemmas.Grind.{common_steps}
use Rattle.ut_image.specs.declared.drawn.Drawn.{Drawn}
use Rattle.ut_main.specs.Parts.{MainValue}
use Rattle.ut_restart.specs.declared.rows.Rows.{Rows}
use Rattle.ut_restart.specs.Noted.{Noted, deltas_noted, mains_noted}
use Rattle.ut_restart.specs.Shown.{AreShown}
use Rattle.ut_restart.proofs.ShownLemmas.{shown-is}
use Rattle.ut_restart.proofs.ImageLemmas.{first-is, tables-few, deltas-few, mains-few, count-few}
use Rattle.ut_restart.proofs.image.first.Goals as goal

pub note_deltas-requires-clause-few : goal.note_deltas-requires-clause-few
note_deltas-requires-clause-few c =
    let few = tables-few c.args.root.now c.args.tables c.args.mains c.requires.0 c.requires.1 c.requires.2 in
    omega (arith, few, ap length c.as_slice-3.ensures)

pub note_deltas-requires-clause-room : goal.note_deltas-requires-clause-room
note_deltas-requires-clause-room c =
    let few = deltas-few c.args.root.now c.args.tables c.args.mains c.requires.0 c.requires.1 c.requires.2 in
    omega (arith, few, ap (λ (ts : List Drawn). length (deltas_noted 0 ts)) c.as_slice-3.ensures)

pub note_mains-requires-clause-few : goal.note_mains-requires-clause-few
note_mains-requires-clause-few c =
    let few = tables-few c.args.root.now c.args.tables c.args.mains c.requires.0 c.requires.1 c.requires.2 in
    omega (arith, few, ap length c.as_slice-4.ensures)

pub note_mains-requires-clause-shown : goal.note_mains-requires-clause-shown
note_mains-requires-clause-shown c =
    let all = shown-is c.args.root.now c.args.tables c.args.mains c.requires.0 c.requires.1 c.requires.2 in
    ((c.requires.0).stages, subst (λ ts. AreShown ts c.as_slice-5.result.now (c.requires.0).stages) (sym c.as_slice-4.ensures) (subst (λ ms. AreShown c.args.tables ms (c.requires.0).stages) (sym c.as_slice-5.ensures) all))

pub note_mains-requires-clause-room : goal.note_mains-requires-clause-room
note_mains-requires-clause-room c =
    let few = mains-few c.args.root.now c.args.tables c.args.mains c.requires.0 c.requires.1 c.requires.2 in
    omega (arith, few, c.in_ok-note_deltas.ensures.load, ap (λ (ts : List Drawn). length (deltas_noted 0 ts)) c.as_slice-3.ensures, ap length (λ i. mains_noted 0 (c.as_slice-4.ensures i) (c.as_slice-5.ensures i)))

pub fill_all-requires-clause-shown : goal.fill_all-requires-clause-shown
fill_all-requires-clause-shown c = ((c.requires.0).stages, shown-is c.args.root.now c.args.tables c.args.mains c.requires.0 c.requires.1 c.requires.2)

pub fill_all-requires-clause-few : goal.fill_all-requires-clause-few
fill_all-requires-clause-few c = count-few c.args.root.now c.args.tables c.args.mains c.requires.0 c.requires.1 c.requires.2

pub returns : goal.returns
returns c =
    let start : Rows = record { stages = c.new.result; positions = c.in_ok-positions.positions; next = c.args.root.now.next; load = 0 } in
    first-is c.args.root.now c.args.tables c.args.mains start c.note_deltas.new.self c.note_mains.new.self c.in_ok-tables.tables c.in_ok-tables.stages (λ q. grind (arith, common_steps)) refl refl
    (subst (λ (ts : List Drawn). Noted start (deltas_noted 0 ts) c.note_deltas.new.self) c.as_slice-3.ensures c.in_ok-note_deltas.ensures)
    (subst (λ (ms : List MainValue). Noted c.note_deltas.new.self (mains_noted 0 c.args.tables ms) c.note_mains.new.self) c.as_slice-5.ensures
    (subst (λ (ts : List Drawn). Noted c.note_deltas.new.self (mains_noted 0 ts c.as_slice-5.result.now) c.note_mains.new.self) c.as_slice-4.ensures c.in_ok-note_mains.ensures))
    c.in_ok-tables.ensures.tables c.in_ok-tables.ensures.stages c.requires.0 c.requires.1 c.requires.2
