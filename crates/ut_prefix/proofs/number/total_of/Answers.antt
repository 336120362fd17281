use Rattle.std.proofs.Common.{arith}
use Rattle.std.proofs.lemmas.Int.{ints}
use Rattle.std.proofs.lemmas.List.{length-take}
use Rattle.ut_prefix.proofs.TotalLemmas.{IsTotal-none, IsTotal-next, IsTotal-all}
use Rattle.ut_prefix.proofs.number.total_of.Goals as goal

pub loop-i-init : goal.loop-i-init
loop-i-init c = IsTotal-none

pub loop-i-preserved : goal.loop-i-preserved
loop-i-preserved c =
    let size = length-take c.loop-i.i c.args.keys.now in
    let before = c.loop-i.invariant.within in
    let more = c.number_of.ensures.within in
    IsTotal-next c.args.keys.now c.loop-i.i c.key.result.now _ c.number_of.result _ (omega arith) c.key.ensures.key c.loop-i.invariant c.number_of.ensures.value c.number_of.ensures.within (omega (arith, ints))

pub returns : goal.returns
returns c = IsTotal-all c.args.keys.now c.loop-i.i _ (omega arith) c.loop-i.invariant
