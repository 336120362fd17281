use Rattle.std.proofs.Common.{◌≡◌, ◌+◌, ◌<◌, ℕ, arith, ap, ◌∙◌, length, get_or, rules}
use Rattle.ut_dictmerge.specs.Cuts.{cut_at}
use Rattle.ut_dictmerge.specs.Pieces.{between}
use Rattle.ut_dictmerge.proofs.FrontLemmas.{sum_is, sum_small, ok_then}
use Rattle.ut_dictmerge.proofs.parallel.bases_of.Goals as goal

pub sums-requires : goal.sums-requires
sums-requires g c =
    let counted : (k : ℕ) → k < c.args.pieces → get_or c.in_ok-counts.counts.items k 0 ≡ length (between c.args.a.now c.args.used_a.now c.args.b.now c.args.used_b.now (cut_at c.args.cuts.now k) (cut_at c.args.cuts.now (k + 1))) = λ k lt. let each = c.in_ok-counts.ensures.each k 0 lt in search (rules, lt, each) in
    let small = sum_small c.args.a.now c.args.used_a.now c.args.b.now c.args.used_b.now c.args.pieces c.args.cuts.now c.as_slice.result.now (record { lists = c.requires.lists; some = omega arith; cuts_are = c.requires.cuts }) (c.as_slice.ensures.len ∙ c.in_ok-counts.ensures.len) (λ k lt. ap (λ l. get_or l k 0) c.as_slice.ensures.value ∙ counted k lt) in
    omega (arith, small, c.requires.room)

pub returns-clause-count : goal.returns-clause-count
returns-clause-count g c = ok_then c.sums.result _ _ c.sums.ensures.len (λ v h. h ∙ (c.as_slice.ensures.len ∙ c.in_ok-counts.ensures.len))

pub returns-clause-bases : goal.returns-clause-bases
returns-clause-bases g c =
    let counted : (k : ℕ) → k < c.args.pieces → get_or c.in_ok-counts.counts.items k 0 ≡ length (between c.args.a.now c.args.used_a.now c.args.b.now c.args.used_b.now (cut_at c.args.cuts.now k) (cut_at c.args.cuts.now (k + 1))) = λ k lt. let each = c.in_ok-counts.ensures.each k 0 lt in search (rules, lt, each) in
    ok_then c.sums.result _ _ c.sums.ensures.sums (λ v h i lt.
    h i (let e = c.as_slice.ensures.len ∙ c.in_ok-counts.ensures.len in omega (arith, e, lt))
    ∙ sum_is c.args.a.now c.args.used_a.now c.args.b.now c.args.used_b.now c.args.pieces c.args.cuts.now c.as_slice.result.now (record { lists = c.requires.lists; some = omega arith; cuts_are = c.requires.cuts }) (c.as_slice.ensures.len ∙ c.in_ok-counts.ensures.len) (λ k lt. ap (λ l. get_or l k 0) c.as_slice.ensures.value ∙ counted k lt) i (omega arith))
