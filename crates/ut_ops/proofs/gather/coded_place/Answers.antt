use Rattle.std.proofs.Common.{◌≡◌, ◌<◌, ◌+◌, List, length, sym, subst, arith, set}
use Rattle.ut_value.specs.declared.value.Value.{Value}
use Rattle.ut_ops.specs.Fit.{cell}
use Rattle.ut_ops.specs.Seen.{AreSeen}
use Rattle.ut_ops.proofs.SeenLemmas.{added-is, marked-value, seen-set}
use Rattle.ut_ops.proofs.gather.coded_place.Goals as goal

pub returns-then-mark-ne0-clause-place : goal.returns-then-mark-ne0-clause-place
returns-then-mark-ne0-clause-place c =
    let some : 0 < c.index-mark.result.now = omega (arith, c.if-mark-ne0.true) in
    marked-value c.args.table.now.stages c.args.column c.args.seen.now.values.items c.args.seen.now.marks.items c.args.code c.index-mark.result.now (cell c.args.table.now.stages c.args.column c.args.hit) c.requires.seen c.requires.code c.requires.marked c.index-mark.ensures some

pub returns-clause-place : goal.returns-clause-place
returns-clause-place c = added-is c.args.seen.now.values.items _ (cell c.args.table.now.stages c.args.column c.args.hit) _ c.in_ok-place.ensures.values c.in_ok-place.ensures.place

pub returns-clause-seen : goal.returns-clause-seen
returns-clause-seen c =
    let s = c.args.table.now.stages in
    let v = cell c.args.table.now.stages c.args.column c.args.hit in
    let old = c.args.seen.now.values.items in
    let mark : c.in_ok-place.place + 1 ≡ length c.args.seen.now.values.items + 1 = omega (arith, c.in_ok-place.ensures.place) in
    subst (λ (vs : List Value). AreSeen c.args.table.now.stages c.args.column vs (set c.args.seen.now.marks.items c.args.code (c.in_ok-place.place + 1))) (sym c.in_ok-place.ensures.values)
    (seen-set s c.args.column old v c.args.seen.now.marks.items c.args.code (c.in_ok-place.place + 1) c.requires.seen c.requires.marked c.requires.code mark)
