use Rattle.std.proofs.Common.{ℕ, ◌+◌, ◌-◌, ◌*◌, length, ap, ◌∙◌}
use Rattle.ut_rle.specs.Runs.{runs_of}
use Rattle.ut_sparse.specs.Frequent.{count_of, most_frequent}
use Rattle.ut_codes.specs.Forms.{form_of, least_form}
use Rattle.ut_codes.proofs.choice.choose.Goals as goal

pub returns-clause-form : goal.returns-clause-form
unfolding form_of
returns-clause-form c =
    let rows = length c.args.codes.now in
    let count = c.in_ok-top.ensures.count ∙ ap (λ (n : ℕ). count_of n c.args.codes.now) c.in_ok-top.ensures.code in
    c.least-form.ensures
    ∙ ap (λ (n : ℕ). least_form (rows * c.args.width) (64 * n) (rows + (rows - c.in_ok-top.top.count) * c.args.width)) c.count_runs.ensures
    ∙ ap (λ (n : ℕ). least_form (rows * c.args.width) (64 * length (runs_of c.args.codes.now)) (rows + (rows - n) * c.args.width)) count
    ∙ ap (λ (w : ℕ). least_form (rows * w) (64 * length (runs_of c.args.codes.now)) (rows + (rows - count_of (most_frequent c.args.codes.now) c.args.codes.now) * w)) c.requires.width
