use Rattle.std.proofs.Common.{sym, ap, ◌∙◌, true}
use Rattle.ut_crowd.specs.declared.book.Turn.{Turn}
use Rattle.ut_app.proofs.CrowdLemmas.{last_at, length_by}
use Rattle.ut_app.proofs.crowd.last_length.Goals as goal

pub returns-in-len1-up : goal.returns-in-len1-up
returns-in-len1-up g c =
    ap (λ (t : Turn). t.journal) c.last-item.is
    ∙ sym (last_at c.args.book.now c.last-item.result c.in-len1-up.len_at_least)
    ∙ sym (length_by c.args.engine.now.store.down c.args.engine.now.store.store.counts.entries c.args.book.now true (sym c.down.ensures ∙ c.if-down.true))
