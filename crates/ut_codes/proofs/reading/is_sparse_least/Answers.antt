use Rattle.std.proofs.Common.{◌≡◌, ℕ, ◌+◌, ◌-◌, ◌*◌, true, false, length, ap, sym, subst, ◌∙◌, arith}
use Rattle.ut_bits.specs.Bits.{AllBelow}
use Rattle.ut_rle.specs.Runs.{runs_of}
use Rattle.ut_sparse.specs.Frequent.{count_of, most_frequent}
use Rattle.ut_codes.specs.Sizes.{code_width}
use Rattle.ut_codes.specs.Forms.{form_of, least_form}
use Rattle.ut_codes.proofs.SizeLemmas.{below-test}
use Rattle.ut_codes.proofs.reading.is_sparse_least.Goals as goal

pub returns-then-not-are_below : goal.returns-then-not-are_below
returns-then-not-are_below c =
    let listed : c.as_slice-codes.result.now ≡ c.args.vector.now.codes = c.as_slice-codes.ensures.value ∙ c.in_ok-codes.ensures in (
      λ no. absurd (let e : false ≡ true = no in cc),
      λ h. let all = (below-test c.args.reach c.as_slice-codes.result.now).1 (subst (λ l. AllBelow c.args.reach l) (sym listed) h.0) in cc,
    )

pub returns : goal.returns
unfolding form_of
returns c =
    let codes = c.args.vector.now.codes in
    let listed : c.as_slice-codes.result.now ≡ codes = c.as_slice-codes.ensures.value ∙ c.in_ok-codes.ensures in
    let width : c.width.result ≡ code_width c.args.reach = c.width.ensures.width ∙ c.requires.width in
    let runs : c.count_runs-runs.result ≡ length (runs_of codes) = c.count_runs-runs.ensures ∙ ap (λ l. length (runs_of l)) listed in
    let others : c.exceptions.result ≡ length codes - count_of (most_frequent codes) codes = omega (arith, c.exceptions.ensures) in
    let form : c.least-form.result ≡ form_of codes c.args.reach =
    c.least-form.ensures
    ∙ ap (λ (n : ℕ). least_form (n * c.width.result) (64 * c.count_runs-runs.result) (n + c.exceptions.result * c.width.result)) c.len.ensures.len
    ∙ ap (λ (n : ℕ). least_form (length codes * c.width.result) (64 * n) (length codes + c.exceptions.result * c.width.result)) runs
    ∙ ap (λ (n : ℕ). least_form (length codes * c.width.result) (64 * length (runs_of codes)) (length codes + n * c.width.result)) others
    ∙ ap (λ (w : ℕ). least_form (length codes * w) (64 * length (runs_of codes)) (length codes + (length codes - count_of (most_frequent codes) codes) * w)) width in (
      λ h. (subst (λ l. AllBelow c.args.reach l) listed ((below-test c.args.reach c.as_slice-codes.result.now).0 cc), sym form ∙ c.is_same.ensures.0 h),
      λ k. c.is_same.ensures.1 (form ∙ k.1),
    )
