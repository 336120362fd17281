use Rattle.std.proofs.Common.{◌≡◌, sym, ap, subst}
use Rattle.ut_plain.specs.Journal.{since}
use Rattle.ut_plain.specs.Plain.{Plain, opened_store}
use Rattle.check_oracle.specs.declared.image.Image.{Image}
use Rattle.check_oracle.specs.Store.{Kept, kept_of, plain_of, plain_with, journal_with, opening_with, selected_of, IsSelected}
use Rattle.check_oracle.proofs.MeasureLemmas.{measured}
use Rattle.check_oracle.proofs.OracleLemmas.{opened_plain, selected_since}
use Rattle.check_oracle.proofs.oracle.Oracle.reopened.Goals as goal

pub invariant_of-result : goal.invariant_of-result
invariant_of-result c =
    let old = c.self.inside.held in
    let image = c.self.inside.selected in
    let j = since (plain_of old).journal image.length in
    let q = plain_of c.in_ok-held.held in
    record {
      plain = opened_plain q image.stages j old.root_pages c.args.rows_limit c.plain_laws.ensures.opened c.in_ok-held.ensures.may c.requires c.in_ok-held.ensures.opens;
      selects = subst (λ (i : Image). IsSelected (selected_of i) q) (sym c.in_ok-selected.ensures) (selected_since (selected_of image) (plain_of old) q c.self.invariant.selects (ap (λ (p : Plain). p.journal) c.in_ok-held.ensures.opens));
    }

pub returns-clause-opens : goal.returns-clause-opens
returns-clause-opens c = λ f.
    subst (λ (k : Kept). plain_with f (kept_of c.in_ok-held.held c.in_ok-selected.selected) ≡ opened_store (opening_with f k) (since (journal_with k) k.selected.length) c.args.rows_limit) c.self.view_is
    (ap (measured f) c.in_ok-held.ensures.opens)

pub returns-clause-image : goal.returns-clause-image
returns-clause-image c = subst (λ (k : Kept). selected_of c.in_ok-selected.selected ≡ k.selected) c.self.view_is (ap selected_of c.in_ok-selected.ensures)
