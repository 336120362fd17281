use Rattle.std.proofs.Common.{ap, ◌∙◌, ◌++◌, ◌∷◌, []}
use Rattle.ut_value.specs.declared.entry.Entry.TheVariants as entries
use Rattle.ut_plain.specs.Plain.{with_entry}
use Rattle.check_oracle.specs.Store.{plain_of}
use Rattle.check_oracle.proofs.HeldLemmas.{table_made}
use Rattle.check_oracle.proofs.session.created.Goals as goal

pub returns : goal.returns
returns c =
    let p = plain_of c.args.held.now in
    let next = plain_of c.in_ok-next.next in
    table_made p next c.args.commits c.args.table.now c.args.columns.now c.push.new.self.items (c.in_ok-next.ensures ∙ (λ i. with_entry p (entries.Create (c.in_ok-name.ensures i) (c.in_ok-columns.ensures i)))) c.requires.commits (c.in_ok-push.ensures.items ∙ ap (λ t. next.stages ++ t ∷ []) c.no_stages.ensures)
