use Rattle.std.proofs.Common.{◌<◌, length, arith}
use Rattle.ut_entry.proofs.ReadLemmas.{one_longer, pushed, stuck}
use Rattle.ut_entry.proofs.read.read_list.Goals as goal

pub returns-in_default-clause-none : goal.returns-in_default-clause-none
returns-in_default-clause-none g c =
    let none = rw c.in_default.is at c.in_ok-item.ensures.none in
    let left : length c.loop.items.items < c.args.count = omega (arith, c.loop.invariant.count, c.loop-test.true) in
    stuck g.T.Spelled.spelling (g.T.Spelled.keeps c.args.context.now) c.args.count c.args.bytes.now c.loop.items.items c.loop.rest.now c.loop.invariant.read left none

pub loop-preserved : goal.loop-preserved
loop-preserved g c =
    let found = rw c.in-Some.is at c.in_ok-item.ensures.found in
    let left : length c.loop.items.items < c.args.count = omega (arith, c.loop.invariant.count, c.loop-test.true) in
    let more = c.in_ok-push.ensures.items in
    record {
      count = one_longer c.loop.items.items c.push.new.self.items c.in-Some.item c.loop.counter more c.loop.invariant.count;
      read = pushed g.T.Spelled.spelling (g.T.Spelled.keeps c.args.context.now) c.args.count c.args.bytes.now c.loop.items.items c.loop.rest.now c.loop.invariant.read left c.requires c.in-Some.item c.in-Some.behind.now c.push.new.self.items found more;
    }
