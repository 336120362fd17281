use Rattle.std.proofs.Common.{◌++◌, ◌∷◌, [], ap, ◌∙◌, unwrap_or}
use Rattle.ut_ops.proofs.JoinLemmas.{listed_more}
use Rattle.ut_ops.proofs.joins.list.Goals as goal

pub returns : goal.returns
returns c v =
    listed_more c.args.index.now c.remove.new.self c.insert.new.self c.args.value c.args.hit c.push.new.self c.remove.ensures.updates.0 c.in_ok-insert.ensures.updates.0
    (c.in_ok-push.ensures.ok ∙ ap (λ xs. xs ++ c.args.hit ∷ []) (c.unwrap_or-hits.ensures ∙ (λ i. unwrap_or (c.remove.ensures.value i) (c.new.ensures i)))) v
