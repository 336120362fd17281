use Rattle.std.proofs.Common.{ℕ, ◌==◌, cond, ap, ◌∙◌}
use Rattle.std.proofs.lemmas.List.Sorted.{sum_by-IsPermutation}
use Rattle.ut_sparse.specs.Frequent.{count_of}
use Rattle.ut_sparse.proofs.FrequentLemmas.{is-most_frequent, most-permuted}
use Rattle.ut_sparse.proofs.frequent.by_sort.Goals as goal

pub returns-clause-most : goal.returns-clause-most
returns-clause-most c =
    let same = λ (d : ℕ). ap (λ l. count_of d l) c.as_slice.ensures.value ∙ sum_by-IsPermutation (λ e. cond (e == d) 1 0) _ _ c.sort_unstable.ensures.permutation ∙ ap (λ l. count_of d l) c.in_ok-sorted.ensures.items in
    most-permuted c.args.codes.now c.as_slice.result.now c.longest_run.result.code same c.longest_run.ensures.most

pub returns-clause-code : goal.returns-clause-code
returns-clause-code c =
    let same = λ (d : ℕ). ap (λ l. count_of d l) c.as_slice.ensures.value ∙ sum_by-IsPermutation (λ e. cond (e == d) 1 0) _ _ c.sort_unstable.ensures.permutation ∙ ap (λ l. count_of d l) c.in_ok-sorted.ensures.items in
    is-most_frequent c.args.codes.now c.longest_run.result.code (most-permuted c.args.codes.now c.as_slice.result.now c.longest_run.result.code same c.longest_run.ensures.most)

pub returns-clause-count : goal.returns-clause-count
returns-clause-count c =
    let same = λ (d : ℕ). ap (λ l. count_of d l) c.as_slice.ensures.value ∙ sum_by-IsPermutation (λ e. cond (e == d) 1 0) _ _ c.sort_unstable.ensures.permutation ∙ ap (λ l. count_of d l) c.in_ok-sorted.ensures.items in
    c.longest_run.ensures.count ∙ same c.longest_run.result.code
