use Rattle.std.proofs.Common.{◌∙◌, ◌<◌, length, subst, sym, arith}
use Rattle.ut_main.specs.Parts.{shared_parts}
use Rattle.ut_main.proofs.MainLemmas.{main-wide, main-chain, shared-at, length-shared}
use Rattle.ut_main.proofs.parts.Main.chain.Goals as goal

pub chain-requires : goal.chain-requires
chain-requires c =
    let arcs = c.self.inside.parts.items in
    let main = c.args.self.now in
    let lt : c.args.p < length arcs = omega (arith, c.requires.part, length-shared arcs c.self.inside.width main c.self.view_is) in
    let at = shared-at arcs c.args.p c.index.result.now c.deref.result.now lt c.index.ensures c.deref.ensures in
    let wide = main-wide c.self.inside.width (shared_parts arcs) c.self.invariant main c.self.view_is c.args.p c.requires.part c.deref.result.now at in
    subst (λ n. c.args.column < n) (sym wide) c.requires.column

pub returns : goal.returns
returns c =
    let arcs = c.self.inside.parts.items in
    let main = c.args.self.now in
    let lt : c.args.p < length arcs = omega (arith, c.requires.part, length-shared arcs c.self.inside.width main c.self.view_is) in
    let at = shared-at arcs c.args.p c.index.result.now c.deref.result.now lt c.index.ensures c.deref.ensures in
    c.chain.ensures.chain ∙ main-chain c.self.inside.width (shared_parts arcs) c.self.invariant main c.self.view_is c.args.p c.requires.part c.deref.result.now at c.args.column c.requires.column
