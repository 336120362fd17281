use Rattle.std.proofs.Common.{◌≡◌, ◌+◌, ◌++◌, [], ◌∷◌, take, sym, ap, ◌∙◌, arith}
use Rattle.std.proofs.lemmas.List.{take_more}
use Rattle.check_rows.specs.Listed.{listed, listed_all}
use Rattle.check_rows.proofs.ListedLemmas.{listed_all-more}
use Rattle.check_rows.proofs.rows.apply_all.Goals as goal

pub loop-op-preserved : goal.loop-op-preserved
loop-op-preserved c =
    let next : take (c.loop-op.op-index + 1) c.args.ops.now ≡ take c.loop-op.op-index c.args.ops.now ++ c.op-item.result ∷ [] = take_more c.args.ops.now c.loop-op.op-index c.op-item.result (omega arith) ∙ ap (λ op. take c.loop-op.op-index c.args.ops.now ++ op ∷ []) (sym c.op-item.is) in
    c.in_ok-apply.ensures ∙ ap (λ rows. listed rows c.op-item.result) c.loop-op.invariant ∙ sym (listed_all-more c.args.rows.now.items (take c.loop-op.op-index c.args.ops.now) c.op-item.result)
    ∙ ap (listed_all c.args.rows.now.items) (sym next)
