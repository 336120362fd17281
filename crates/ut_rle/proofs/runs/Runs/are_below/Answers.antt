use Rattle.std.proofs.Common.{◌≡◌, sym, ap, ◌∙◌, nat_lt}
use Rattle.std.specs.List.{list_all}
use Rattle.ut_rle.proofs.EndsLemmas.{below-codes}
use Rattle.ut_rle.proofs.runs.Runs.are_below.Goals as goal

pub returns : goal.returns
returns c =
    let both = below-codes _ c.args.limit 0 c.self.inside.runs.items c.self.invariant.3 in
    let test : c.codes_are_below.result ≡ list_all (λ r. nat_lt r.code c.args.limit) c.self.inside.runs.items = c.codes_are_below.ensures ∙ ap (λ l. list_all (λ r. nat_lt r.code c.args.limit) l) c.as_slice.ensures.value in
    rw (← c.self.view_is)
    (λ h. both.0 (sym test ∙ h), λ h. test ∙ both.1 h)
