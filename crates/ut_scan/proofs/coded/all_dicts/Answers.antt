use Rattle.std.proofs.Common.{◌≡◌, ◌∙◌, ◌+◌, ◌-◌, ◌<◌, length, sym, subst, arith}
use Rattle.ut_scan.proofs.CodeLemmas.{part-of, part-width, last-chain}
use Rattle.ut_scan.proofs.coded.all_dicts.Goals as goal

pub chain-requires : goal.chain-requires
chain-requires c =
    let main = c.args.main.now in
    let p = c.parts.result - 1 in
    let there : c.parts.result - 1 < length main.parts = omega (arith, c.parts.ensures.count, c.requires.parts) in
    let at = part-of main p c.part.result.now c.deref.result.now there c.deref.ensures c.part.ensures.rows c.part.ensures.before in
    subst (λ n. c.args.column < n) (sym (part-width main p c.deref.result.now at)) c.requires.column

pub returns-clause-chain : goal.returns-clause-chain
returns-clause-chain c =
    let main = c.args.main.now in
    let p = c.parts.result - 1 in
    let there : c.parts.result - 1 < length main.parts = omega (arith, c.parts.ensures.count, c.requires.parts) in
    let last : c.parts.result - 1 + 1 ≡ length main.parts = omega (arith, c.parts.ensures.count, c.requires.parts) in
    let at = part-of main p c.part.result.now c.deref.result.now there c.deref.ensures c.part.ensures.rows c.part.ensures.before in
    c.chain.ensures.chain ∙ last-chain main p c.deref.result.now c.args.column at last c.requires.column
