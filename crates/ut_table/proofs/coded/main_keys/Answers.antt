use Rattle.std.proofs.Common.{◌∙◌, ◌<◌, length, arith}
use Rattle.ut_scan.proofs.CodeLemmas.{part-of, part-width}
use Rattle.ut_table.proofs.CodedLemmas.{keys-none, keys-next, keys-all}
use Rattle.ut_table.proofs.coded.main_keys.Goals as goal

pub loop-p-init : goal.loop-p-init
loop-p-init c = c.new-keys.ensures ∙ keys-none c.args.main.now c.args.column

pub dict-requires : goal.dict-requires
dict-requires c =
    let main = c.args.main.now in
    let p = c.loop-p.p in
    let there : c.loop-p.p < length main.parts = omega (arith, c.loop-p-test.true, c.parts-p-end.ensures.count) in
    let part = c.deref.result.now in
    let at = part-of main p c.part.result.now part there c.deref.ensures c.part.ensures.rows c.part.ensures.before in
    omega (arith, c.requires.column, part-width main p part at)

pub loop-p-preserved : goal.loop-p-preserved
loop-p-preserved c =
    let main = c.args.main.now in
    let p = c.loop-p.p in
    let there : c.loop-p.p < length main.parts = omega (arith, c.loop-p-test.true, c.parts-p-end.ensures.count) in
    let part = c.deref.result.now in
    let at = part-of main p c.part.result.now part there c.deref.ensures c.part.ensures.rows c.part.ensures.before in
    keys-next main p c.args.column part c.loop-p.keys c.in_ok-more.more c.in_ok-keys.keys there c.requires.column at.rows at.before c.loop-p.invariant
    (c.in_ok-more.ensures ∙ c.deref-in-loop-p.ensures ∙ c.dict.ensures) c.in_ok-keys.ensures

pub returns : goal.returns
returns c = c.loop-p.invariant ∙ keys-all c.args.main.now c.loop-p.p c.args.column (omega (arith, c.loop-p-test.false, c.parts-p-end.ensures.count))
