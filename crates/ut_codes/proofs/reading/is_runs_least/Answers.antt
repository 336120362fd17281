use Rattle.std.proofs.Common.{◌≡◌, ℕ, ◌*◌, ◌≤◌, ap, ◌∙◌, length, arith}
use Rattle.std.proofs.lemmas.Bool.{lt-ltb}
use borrow.Author.Tests.{ltb-true}
use Rattle.ut_rle.specs.Runs.{runs_of}
use Rattle.ut_codes.specs.Sizes.{code_width}
use Rattle.ut_codes.proofs.FormLemmas.{form-runs, runs-form}
use Rattle.ut_codes.proofs.reading.is_runs_least.Goals as goal

pub returns-then-are_below : goal.returns-then-are_below
returns-then-are_below c =
    let codes = c.args.vector.now.codes in
    let runs : c.from-runs.result ≡ length (runs_of codes) = c.from-runs.ensures ∙ c.run_count.ensures in
    let rows : c.from-rows.result ≡ length codes = c.from-rows.ensures ∙ c.len.ensures.len in
    let width : c.from.result ≡ code_width c.args.reach = c.from.ensures ∙ c.width-width.ensures.width ∙ c.requires.width in
    let few : 64 * length (runs_of codes) ≤ length codes = omega (arith, runs, rows) in
    let product : c.from-rows.result * c.from.result ≡ length codes * code_width c.args.reach = ap (λ (n : ℕ). n * c.from.result) rows ∙ ap (λ (n : ℕ). length codes * n) width in (
      λ h. (c.are_below.ensures.0 c.if-are_below.true, form-runs codes c.args.reach few (omega (arith, ltb-true _ _ h, product, runs))),
      λ k. lt-ltb _ _ (omega (arith, runs-form codes c.args.reach few k.1, product, runs)),
    )
