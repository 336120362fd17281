use Rattle.std.proofs.Common.{List, length, [], ap, arith}
use Rattle.std.proofs.lemmas.List.Sums.{sum_by_more}
use Rattle.ut_l2.specs.KeyRows.{KeyRow}
use Rattle.ut_main.specs.Parts.{shared_parts}
use Rattle.ut_main.proofs.MainLemmas.{main-rows, part-met}
use Rattle.ut_main.proofs.parts.Main.rows.Goals as goal

pub loop-part-preserved : goal.loop-part-preserved
loop-part-preserved c =
    let main = c.args.self.now in
    let n = c.loop-part.part-index in
    let part = part-met c.self.inside.parts.items c.as_slice-parts.result.now c.self.inside.width n main c.part-item.result c.deref.result.now c.as_slice-parts.ensures.value c.self.view_is (omega (arith, c.loop-part-test.true)) c.part-item.is c.deref.ensures in
    let rows = ap (λ (l : List KeyRow). length l) (main-rows c.self.inside.width (shared_parts c.self.inside.parts.items) c.self.invariant main c.self.view_is n part.within c.deref.result.now part.at) in
    let more = sum_by_more length main.parts n [] part.within in
    omega (arith, rows, more, c.len-rows.ensures.len, c.loop-part.invariant)
