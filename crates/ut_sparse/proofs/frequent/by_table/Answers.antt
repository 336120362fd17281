use Rattle.std.proofs.Common.{length, get_or, ap, ◌∙◌}
use Rattle.ut_sparse.proofs.FrequentLemmas.{is-most_frequent, table-most}
use Rattle.ut_sparse.proofs.frequent.by_table.Goals as goal

pub returns-clause-most : goal.returns-clause-most
returns-clause-most c =
    table-most c.args.limit c.args.codes.now c.as_slice-counts.result.now c.first_greatest-best.result c.requires.below
    (ap (λ l. length l) c.as_slice-counts.ensures.value ∙ c.in_ok-counts.ensures.len)
    (λ d h. ap (λ l. get_or l d 0) c.as_slice-counts.ensures.value ∙ c.in_ok-counts.ensures.counts d h)
    c.first_greatest-best.ensures.within c.first_greatest-best.ensures.greatest c.first_greatest-best.ensures.first

pub returns-clause-code : goal.returns-clause-code
returns-clause-code c =
    is-most_frequent c.args.codes.now c.first_greatest-best.result
    (table-most c.args.limit c.args.codes.now c.as_slice-counts.result.now c.first_greatest-best.result c.requires.below
    (ap (λ l. length l) c.as_slice-counts.ensures.value ∙ c.in_ok-counts.ensures.len)
    (λ d h. ap (λ l. get_or l d 0) c.as_slice-counts.ensures.value ∙ c.in_ok-counts.ensures.counts d h)
    c.first_greatest-best.ensures.within c.first_greatest-best.ensures.greatest c.first_greatest-best.ensures.first)
