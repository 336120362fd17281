use Rattle.std.proofs.Common.{◌≡◌, ◌+◌, ◌++◌, [], ◌∷◌, take, sym, ap, ◌∙◌, arith}
use Rattle.std.proofs.lemmas.List.{take_more}
use Rattle.ut_plain.specs.Stages.{with_inserts}
use Rattle.check_stages.proofs.StageLemmas.{with_inserts-append}
use Rattle.check_stages.proofs.stages.place_all.Goals as goal

pub loop-op-preserved : goal.loop-op-preserved
loop-op-preserved c =
    let next : take (c.loop-op.op-index + 1) c.args.ops.now ≡ take c.loop-op.op-index c.args.ops.now ++ c.op-item.result ∷ [] = take_more c.args.ops.now c.loop-op.op-index c.op-item.result (omega arith) ∙ ap (λ op. take c.loop-op.op-index c.args.ops.now ++ op ∷ []) (sym c.op-item.is) in
    c.in_ok-place_row.ensures ∙ ap (λ stages. with_inserts c.args.bulk stages (c.op-item.result ∷ [])) c.loop-op.invariant ∙ sym (with_inserts-append c.args.bulk c.args.stages.now.items (take c.loop-op.op-index c.args.ops.now) (c.op-item.result ∷ []))
    ∙ ap (with_inserts c.args.bulk c.args.stages.now.items) (sym next)
