use Rattle.std.proofs.Common.{◌≡◌, ◌+◌, ◌++◌, [], ◌∷◌, take, sym, ap, ◌∙◌, arith}
use Rattle.std.proofs.lemmas.List.{take_more}
use Rattle.ut_plain.specs.Rows.{next_after}
use Rattle.check_rows.proofs.LoadLemmas.{next_after-append}
use Rattle.check_rows.proofs.load.next_after_ops.Goals as goal

pub loop-op-preserved : goal.loop-op-preserved
loop-op-preserved c =
    let next : take (c.loop-op.op-index + 1) c.args.ops.now ≡ take c.loop-op.op-index c.args.ops.now ++ c.op-item.result ∷ [] = take_more c.args.ops.now c.loop-op.op-index c.op-item.result (omega arith) ∙ ap (λ op. take c.loop-op.op-index c.args.ops.now ++ op ∷ []) (sym c.op-item.is) in
    c.next_after_op-last.ensures ∙ ap (λ last. next_after last (c.op-item.result ∷ [])) c.loop-op.invariant ∙ sym (next_after-append c.args.next (take c.loop-op.op-index c.args.ops.now) c.op-item.result) ∙ ap (next_after c.args.next) (sym next)
