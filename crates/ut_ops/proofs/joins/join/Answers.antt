use Rattle.std.proofs.Common.{length, sym, ap, ◌∙◌, subst}
use Rattle.std.specs.List.{flat_map}
use Rattle.ut_ops.specs.Fit.{Fit, cell, values_at}
use Rattle.ut_ops.specs.Index.{listed, beside, beside_each}
use Rattle.ut_ops.proofs.JoinLemmas.{index_fits, joined_is}
use Rattle.ut_ops.proofs.PairLemmas.{lefts-fit, rights-fit, pairs-alike, beside-all}
use Rattle.ut_ops.proofs.joins.join.Goals as goal

pub beside_each-requires-clause-left_fit : goal.beside_each-requires-clause-left_fit
beside_each-requires-clause-left_fit c =
    let l = c.args.left.now.stages in
    subst (Fit l) (sym (c.as_slice.ensures.value ∙ c.in_ok-pairs.ensures.lefts)) (lefts-fit l (λ f. listed c.in_ok-index.index (cell l c.args.left_column f)) c.args.left_hits.now c.requires.left_fit)

pub beside_each-requires-clause-right_fit : goal.beside_each-requires-clause-right_fit
beside_each-requires-clause-right_fit c =
    let l = c.args.left.now.stages in
    let r = c.args.right.now.stages in
    let fit = index_fits r c.args.right_column c.args.right_hits.now c.in_ok-index.index c.requires.right_fit c.in_ok-index.ensures in
    subst (Fit r) (sym (c.as_slice-2.ensures.value ∙ c.in_ok-pairs.ensures.rights)) (rights-fit r (λ f. listed c.in_ok-index.index (cell l c.args.left_column f)) c.args.left_hits.now (λ f. fit.each (cell l c.args.left_column f)))

pub beside_each-requires-clause-pairs : goal.beside_each-requires-clause-pairs
beside_each-requires-clause-pairs c =
    let l = c.args.left.now.stages in
    ap length (c.as_slice-2.ensures.value ∙ c.in_ok-pairs.ensures.rights)
    ∙ pairs-alike (λ f. listed c.in_ok-index.index (cell l c.args.left_column f)) c.args.left_hits.now
    ∙ ap length (sym (c.as_slice.ensures.value ∙ c.in_ok-pairs.ensures.lefts))

pub returns : goal.returns
returns c = λ n m left_name right_name left_at right_at.
    let l = c.args.left.now.stages in
    let r = c.args.right.now.stages in
    let left = c.args.left_column in
    c.in_ok-rows.ensures
    ∙ (λ i. beside_each l ((c.as_slice.ensures.value ∙ c.in_ok-pairs.ensures.lefts) i) r ((c.as_slice-2.ensures.value ∙ c.in_ok-pairs.ensures.rights) i))
    ∙ beside-all l r (λ f. listed c.in_ok-index.index (cell l left f)) c.args.left_hits.now
    ∙ (λ i. flat_map (λ f. beside (values_at l f) r (c.in_ok-index.ensures.each (cell l left f) i)) c.args.left_hits.now)
    ∙ joined_is n m l r left_name right_name left c.args.right_column c.args.left_hits.now c.args.right_hits.now c.requires.left_fit c.requires.right_fit left_at right_at
