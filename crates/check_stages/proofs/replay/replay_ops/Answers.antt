use Rattle.std.proofs.Common.{◌≡◌, ◌+◌, ◌++◌, [], ◌∷◌, take, sym, ap, ◌∙◌, arith}
use Rattle.std.proofs.lemmas.List.{take_more}
use Rattle.ut_plain.specs.Restart.{replayed_ops}
use Rattle.check_stages.proofs.ReplayLemmas.{replayed_ops-append}
use Rattle.check_stages.proofs.replay.replay_ops.Goals as goal

pub loop-op-preserved : goal.loop-op-preserved
loop-op-preserved c =
    let next : take (c.loop-op.op-index + 1) c.args.ops.now ≡ take c.loop-op.op-index c.args.ops.now ++ c.op-item.result ∷ [] = take_more c.args.ops.now c.loop-op.op-index c.op-item.result (omega arith) ∙ ap (λ op. take c.loop-op.op-index c.args.ops.now ++ op ∷ []) (sym c.op-item.is) in
    c.in_ok-replay_op.ensures ∙ ap (λ stages. replayed_ops stages (c.op-item.result ∷ [])) c.loop-op.invariant ∙ sym (replayed_ops-append c.args.stages.now.items (take c.loop-op.op-index c.args.ops.now) (c.op-item.result ∷ []))
    ∙ ap (replayed_ops c.args.stages.now.items) (sym next)
