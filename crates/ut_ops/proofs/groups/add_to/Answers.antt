use Rattle.std.proofs.Common.{◌≡◌, ◌-◌, get_or, length, arith, rules}
use Rattle.std.proofs.lemmas.Int.{ints, to_z-of_z}
use Rattle.ut_ops.proofs.GatherLemmas.{is-number}
use Rattle.ut_ops.proofs.CodeLemmas.{code-cell, adds-new, adds-marked, adds-more}
use Rattle.ut_ops.specs.Fit.{cell}
use Rattle.ut_ops.proofs.groups.add_to.Goals as goal

pub returns-in_default : goal.returns-in_default
returns-in_default c =
    adds-new c.args.table.now.stages c.args.key (cell c.args.table.now.stages c.args.key c.args.hit) c.args.number c.args.marks.now c.args.gathered.now.items _ _
    (is-number c.args.number c.ranges.number) c.requires.marks c.in_ok-add_new.ensures (grind (arith, ints, to_z-of_z))

pub returns-then-marks-code : goal.returns-then-marks-code
returns-then-marks-code c =
    adds-new c.args.table.now.stages c.args.key (cell c.args.table.now.stages c.args.key c.args.hit) c.args.number c.args.marks.now c.args.gathered.now.items _ _
    (is-number c.args.number c.ranges.number) c.requires.marks c.in_ok-add_new-2.ensures (grind (arith, ints, to_z-of_z))

pub add_more-requires-clause-place : goal.add_more-requires-clause-place
add_more-requires-clause-place c =
    (c.requires.marks.each c.in-Some.code (get_or c.args.marks.now c.in-Some.code 0 - 1) (omega (arith, c.if-mark-eq0.false))).0

pub returns-in_ok-add_new-3 : goal.returns-in_ok-add_new-3
returns-in_ok-add_new-3 c =
    let count : c.len.result ≡ length c.add_new-then-mark-eq0.new.gathered.items = search rules in
    adds-marked c.args.table.now.stages c.args.key (cell c.args.table.now.stages c.args.key c.args.hit) c.args.number c.args.marks.now c.args.gathered.now.items c.in-Some.code c.len.result c.add_new-then-mark-eq0.new.gathered.items _
    (is-number c.args.number c.ranges.number) c.requires.marks (omega (arith, c.if-marks-code.false))
    (code-cell c.args.table.now.stages c.args.key c.args.hit c.code.result c.in-Some.code c.requires.row c.requires.key c.code.ensures.value c.in-Some.is)
    count c.in_ok-add_new-3.ensures (grind (arith, ints, to_z-of_z))

pub returns-else-mark-eq0 : goal.returns-else-mark-eq0
returns-else-mark-eq0 c =
    adds-more c.args.table.now.stages c.args.key (cell c.args.table.now.stages c.args.key c.args.hit) c.args.number c.args.marks.now c.args.gathered.now.items c.in-Some.code (get_or c.args.marks.now c.in-Some.code 0 - 1) _ _
    (is-number c.args.number c.ranges.number) c.requires.marks
    (code-cell c.args.table.now.stages c.args.key c.args.hit c.code.result c.in-Some.code c.requires.row c.requires.key c.code.ensures.value c.in-Some.is)
    (omega (arith, c.if-mark-eq0.false)) c.add_more.ensures (grind (arith, ints, to_z-of_z))
