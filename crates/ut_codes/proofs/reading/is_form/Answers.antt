use Rattle.std.proofs.Common.{◌≡◌, true, false, sym, ◌∙◌}
use Rattle.ut_codes.proofs.SizeLemmas.{below-test}
use Rattle.ut_codes.proofs.reading.is_form.Goals as goal

pub returns-then-not-are_below : goal.returns-then-not-are_below
returns-then-not-are_below c = (λ no. absurd (let e : false ≡ true = no in cc), λ h. let all = (below-test c.args.reach c.args.codes.now).1 h.0 in cc)

pub returns : goal.returns
returns c = (
  λ h. ((below-test c.args.reach c.args.codes.now).0 cc, sym c.in_ok-choice.ensures.form ∙ c.is_same.ensures.0 h),
  λ k. c.is_same.ensures.1 (c.in_ok-choice.ensures.form ∙ k.1),
)
