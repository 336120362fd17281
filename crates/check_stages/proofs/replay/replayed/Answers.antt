use Rattle.std.proofs.Common.{◌≡◌, ◌+◌, ◌++◌, [], ◌∷◌, take, sym, ap, ◌∙◌, arith}
use Rattle.std.proofs.lemmas.List.{take_more}
use Rattle.ut_plain.specs.Restart.{replayed_entry, replayed}
use Rattle.check_stages.proofs.ReplayLemmas.{replayed-append}
use Rattle.check_stages.proofs.replay.replayed.Goals as goal

pub loop-entry-preserved : goal.loop-entry-preserved
loop-entry-preserved c =
    let next : take (c.loop-entry.entry-index + 1) c.args.entries.now ≡ take c.loop-entry.entry-index c.args.entries.now ++ c.entry-item.result ∷ [] = take_more c.args.entries.now c.loop-entry.entry-index c.entry-item.result (omega arith) ∙ ap (λ e. take c.loop-entry.entry-index c.args.entries.now ++ e ∷ []) (sym c.entry-item.is) in
    c.in_ok-replay_entry.ensures ∙ ap (λ stages. replayed_entry stages c.entry-item.result) c.loop-entry.invariant ∙ sym (replayed-append c.args.first.now (take c.loop-entry.entry-index c.args.entries.now) c.entry-item.result) ∙ ap (replayed c.args.first.now) (sym next)
