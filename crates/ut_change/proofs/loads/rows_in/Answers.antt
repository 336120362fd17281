use Rattle.std.proofs.Common.{◌≡◌, ◌<◌, min, length, take, drop, ap, ◌∙◌, arith, length-drop}
use Rattle.ut_plain.proofs.CutLemmas.{rows_of-split}
use Rattle.ut_change.proofs.loads.rows_in.Goals as goal

pub loop-rest-preserved : goal.loop-rest-preserved
loop-rest-preserved c =
    let at = c.loop-rest in
    let front : c.split_at.result.0.now ≡ take (min c.args.width (length at.rest.now)) at.rest.now = cc in
    let back : c.split_at.result.1.now ≡ drop (min c.args.width (length at.rest.now)) at.rest.now = cc in
    let some : 0 < length at.rest.now = omega arith in
    let split = ap length (rows_of-split c.args.width at.rest.now c.split_at.result.0.now c.split_at.result.1.now c.requires some front back) in
    let so_far = at.invariant.so_far in
    let few = at.invariant.few in
    let shorter = ap length back ∙ length-drop (min c.args.width (length at.rest.now)) at.rest.now in
    let width = c.requires in
    record { so_far = omega (arith, split, so_far); few = omega (arith, few, shorter, some, width) }
