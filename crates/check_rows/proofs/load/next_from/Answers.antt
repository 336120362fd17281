use Rattle.std.proofs.Common.{◌≡◌, ◌+◌, ◌++◌, [], ◌∷◌, take, sym, ap, ◌∙◌, arith}
use Rattle.std.proofs.lemmas.List.{take_more}
use Rattle.ut_plain.specs.Journal.{after_all}
use Rattle.check_rows.specs.Known.{entry_next}
use Rattle.check_rows.proofs.LoadLemmas.{next-after_all}
use Rattle.check_rows.proofs.load.next_from.Goals as goal

pub loop-entry-init : goal.loop-entry-init
loop-entry-init c = λ s is. sym is

pub loop-entry-preserved : goal.loop-entry-preserved
loop-entry-preserved c = λ s is.
    let next : take (c.loop-entry.entry-index + 1) c.args.entries.now ≡ take c.loop-entry.entry-index c.args.entries.now ++ c.entry-item.result ∷ [] = take_more c.args.entries.now c.loop-entry.entry-index c.entry-item.result (omega arith) ∙ ap (λ e. take c.loop-entry.entry-index c.args.entries.now ++ e ∷ []) (sym c.entry-item.is) in
    c.next_after_entry-next.ensures ∙ ap (λ n. entry_next n c.entry-item.result) (c.loop-entry.invariant s is) ∙ next-after_all s (take c.loop-entry.entry-index c.args.entries.now) c.entry-item.result ∙ ap (λ es. (after_all s es).next) (sym next)
