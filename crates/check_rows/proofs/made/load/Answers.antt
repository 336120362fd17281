use Rattle.std.proofs.Common.{◌≡◌, min, length, take, drop, arith}
use Rattle.check_rows.proofs.MadeLemmas.{row_counted, row_inserted}
use Rattle.check_rows.proofs.made.load.Goals as goal

pub loop-rest-preserved : goal.loop-rest-preserved
loop-rest-preserved c =
    let front : c.split_at.result.0.now ≡ take (min c.args.width (length c.loop-rest.rest.now)) c.loop-rest.rest.now = cc in
    let back : c.split_at.result.1.now ≡ drop (min c.args.width (length c.loop-rest.rest.now)) c.loop-rest.rest.now = cc in
    let one = row_counted c.args.width c.loop-rest.rest.now _ _ c.requires.width (omega arith) front back in
    let ids = c.loop-rest.invariant.ids in
    record {
      made = row_inserted c.args.width c.args.table c.loop-rest.id c.loop-rest.rest.now _ _ c.in_ok-values.values c.loop-rest.ops _ _ c.requires.width (omega arith) front back c.in_ok-values.ensures c.in_ok-push.ensures.ok c.loop-rest.invariant.made;
      ids = omega (arith, one, ids);
    }
