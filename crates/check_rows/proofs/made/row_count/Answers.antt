use Rattle.std.proofs.Common.{◌≡◌, min, length, take, drop, arith}
use Rattle.check_rows.proofs.MadeLemmas.{length-rows_of, row_counted}
use Rattle.check_rows.proofs.made.row_count.Goals as goal

pub overflow_add-count : goal.overflow_add-count
overflow_add-count c =
    let front : c.split_at.result.0.now ≡ take (min c.args.width (length c.loop-rest.rest.now)) c.loop-rest.rest.now = cc in
    let back : c.split_at.result.1.now ≡ drop (min c.args.width (length c.loop-rest.rest.now)) c.loop-rest.rest.now = cc in
    let one = row_counted c.args.width c.loop-rest.rest.now _ _ c.requires (omega arith) front back in
    let few = length-rows_of c.args.width c.args.values.now in
    omega (arith, one, few, c.loop-rest.invariant)

pub loop-rest-preserved : goal.loop-rest-preserved
loop-rest-preserved c =
    let front : c.split_at.result.0.now ≡ take (min c.args.width (length c.loop-rest.rest.now)) c.loop-rest.rest.now = cc in
    let back : c.split_at.result.1.now ≡ drop (min c.args.width (length c.loop-rest.rest.now)) c.loop-rest.rest.now = cc in
    let one = row_counted c.args.width c.loop-rest.rest.now _ _ c.requires (omega arith) front back in
    omega (arith, one, c.loop-rest.invariant)
