use Rattle.std.proofs.Common.{◌≡◌, take, ap, ◌∙◌, arith, refl}
use Rattle.std.proofs.lemmas.List.{take_all}
use Rattle.std.proofs.lemmas.Map.Keys.{ge_from_not_lt}
use Rattle.ut_sparse.specs.Frequent.{count_of}
use Rattle.ut_sparse.proofs.FrequentLemmas.{longest-next, count_of-le}
use Rattle.ut_sparse.proofs.frequent.longest_run.Goals as goal

pub loop-code-init : goal.loop-code-init
loop-code-init c = record {
  best = record { counted = refl; most = λ d. (omega arith, λ _. omega arith) };
  run = refl;
  rest = λ d _. refl;
  before = omega arith;
  here = λ h. absurd (omega arith);
  none = λ _. refl;
}

pub lengthened-run-requires : goal.lengthened-run-requires
lengthened-run-requires c =
    omega (arith, c.loop-code.invariant.run, count_of-le c.loop-code.run.code c.loop-code.code-index c.args.sorted.now (omega arith), c.requires.count)

pub loop-code-preserved : goal.loop-code-preserved
loop-code-preserved c =
    longest-next c.args.sorted.now c.loop-code.code-index c.loop-code.best.code c.loop-code.best.count c.loop-code.run.code c.loop-code.run.count
    c.longer-best.result.code c.longer-best.result.count c.lengthened-run.result.code c.lengthened-run.result.count
    (λ k h. ge_from_not_lt _ _ (c.requires.sorted k 0 (omega arith) h)) c.loop-code-test.true c.loop-code.invariant c.lengthened-run.ensures.code c.lengthened-run.ensures.same c.lengthened-run.ensures.other
    (λ h. (ap (λ f. f.code) (c.longer-best.ensures.stays h), ap (λ f. f.count) (c.longer-best.ensures.stays h))) (λ h. (ap (λ f. f.code) (c.longer-best.ensures.grows h), ap (λ f. f.count) (c.longer-best.ensures.grows h)))

pub returns-clause-count : goal.returns-clause-count
returns-clause-count c =
    c.loop-code.invariant.best.counted ∙ ap (λ l. count_of c.loop-code.best.code l) (take_all c.loop-code.code-index c.args.sorted.now (omega arith))

pub returns-clause-most : goal.returns-clause-most
returns-clause-most c =
    let all : take c.loop-code.code-index c.args.sorted.now ≡ c.args.sorted.now = take_all c.loop-code.code-index c.args.sorted.now (omega arith) in
    let best = c.loop-code.invariant.best in
    λ d.
    let here = best.most d in
    let count = ap (λ l. count_of d l) all in
    let top = best.counted ∙ ap (λ l. count_of c.loop-code.best.code l) all in
    (omega (arith, here.0, count, top), λ e. here.1 (omega (arith, count, top, e)))
