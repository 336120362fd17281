use Rattle.std.proofs.Common.{◌∙◌, ◌<◌, List, ℕ, length, map, get_or, All, refl, sym, ap, subst, arith}
use Rattle.std.specs.Global.{Vec}
use Rattle.std.specs.List.{range_with_len}
use Rattle.std.specs.List.Sorted.{IsPermutation, IsSorted}
use Rattle.ut_prefix.specs.Chain.{shared_dicts}
use Rattle.ut_resort.specs.Resorted.{columns_by, row_cmp}
use Rattle.ut_merge.specs.declared.arranging.NewRows.{NewRows}
use Rattle.ut_merge.specs.declared.old.Old.{Old}
use Rattle.ut_merge.specs.declared.old.Old.TheVariants.{Closed}
use Rattle.ut_merge.specs.Jobs.{kept_rows}
use Rattle.ut_merge.specs.Columns.{codes_in}
use Rattle.ut_merge.proofs.ArrangeLemmas.{column-size, ids-size, olds-size, resorted-new}
use Rattle.ut_merge.proofs.KeptLemmas.{kept-low}
use Rattle.ut_merge.proofs.SeekLemmas.{permuted-within}
use Rattle.ut_merge.proofs.arranging.arranged.Goals as goal

pub order-requires-clause-sizes : goal.order-requires-clause-sizes
order-requires-clause-sizes c k d lt =
    let rows = c.args.rows in
    let low : k < length rows.codes.items = omega (arith, lt, ap (λ (l : List (Vec ℕ)). length l) c.as_slice-columns.ensures.value) in
    ap (λ (l : List (Vec ℕ)). length (get_or l k d).items) c.as_slice-columns.ensures.value ∙ column-size c.args.job.now (kept_rows c.args.job.now) rows c.requires.rows k d low
    ∙ ap (λ (l : List ℕ). length l) (sym c.as_slice-in-Resort-2.ensures.value)

pub order-requires-clause-few : goal.order-requires-clause-few
order-requires-clause-few c =
    omega (arith, kept-low c.args.job.now c.requires.job, ids-size c.args.job.now (kept_rows c.args.job.now) c.args.rows c.requires.rows, ap (λ (l : List ℕ). length l) c.as_slice-in-Resort-2.ensures.value)

pub moved-requires : goal.moved-requires
moved-requires c =
    let size = ap (λ (l : List ℕ). length l) c.as_slice-in-Resort-2.ensures.value ∙ sym (olds-size c.args.job.now (kept_rows c.args.job.now) c.args.rows c.requires.rows)
    ∙ ap (λ (l : List Old). length l) (sym c.as_slice-in-Resort-3.ensures.value) in
    let all = permuted-within (length c.as_slice-in-Resort-2.result.now) c.in_ok-places-in-Resort.places.items c.in_ok-places-in-Resort.ensures.all in
    subst (λ n. All (λ p. p < n) c.as_slice-in-Resort-4.result.now) size (subst (All (λ p. p < length c.as_slice-in-Resort-2.result.now)) (sym c.as_slice-in-Resort-4.ensures.value) all)

pub moved-requires-in-Resort : goal.moved-requires-in-Resort
moved-requires-in-Resort c =
    let size = ap (λ (l : List ℕ). length l) (c.as_slice-in-Resort-2.ensures.value ∙ sym c.as_slice-in-Resort-5.ensures.value) in
    let all = permuted-within (length c.as_slice-in-Resort-2.result.now) c.in_ok-places-in-Resort.places.items c.in_ok-places-in-Resort.ensures.all in
    subst (λ n. All (λ p. p < n) c.as_slice-in-Resort-6.result.now) size (subst (All (λ p. p < length c.as_slice-in-Resort-2.result.now)) (sym c.as_slice-in-Resort-6.ensures.value) all)

pub moved_columns-requires : goal.moved_columns-requires
moved_columns-requires c k d lt =
    let low : k < length c.args.rows.codes.items = omega (arith, lt, ap (λ (l : List (Vec ℕ)). length l) c.as_slice-columns.ensures.value) in
    let size = ap (λ (l : List (Vec ℕ)). length (get_or l k d).items) c.as_slice-columns.ensures.value ∙ column-size c.args.job.now (kept_rows c.args.job.now) c.args.rows c.requires.rows k d low
    ∙ ap (λ (l : List ℕ). length l) (sym c.as_slice-in-Resort-2.ensures.value) in
    let all = permuted-within (length c.as_slice-in-Resort-2.result.now) c.in_ok-places-in-Resort.places.items c.in_ok-places-in-Resort.ensures.all in
    subst (λ n. All (λ p. p < n) c.as_slice-in-Resort-7.result.now) (sym size) (subst (All (λ p. p < length c.as_slice-in-Resort-2.result.now)) (sym c.as_slice-in-Resort-7.ensures.value) all)

pub returns-in_ok-codes-in-Resort : goal.returns-in_ok-codes-in-Resort
returns-in_ok-codes-in-Resort c =
    let old = c.args.rows in
    let counts = c.in_ok-counts-in-Resort.counts.items in
    let places = c.in_ok-places-in-Resort.places.items in
    let new : NewRows = record { olds = c.in_ok-olds-in-Resort.olds; ids = c.in_ok-ids-in-Resort.ids; dicts = c.args.rows.dicts; codes = c.in_ok-codes-in-Resort.codes } in
    resorted-new c.args.job.now old new counts places (sym c.kind.ensures ∙ c.in-Resort.is) c.requires.job c.requires.rows
    (c.in_ok-counts-in-Resort.ensures ∙ ap (λ dicts. map (λ (l : List (List ℕ)). length l) (shared_dicts dicts)) c.as_slice.ensures.value)
    (subst (λ (l : List ℕ). IsPermutation (range_with_len 0 (length l)) places) c.as_slice-in-Resort-2.ensures.value c.in_ok-places-in-Resort.ensures.all)
    (subst (λ (l : List ℕ). IsSorted (row_cmp (columns_by l) (codes_in old.codes.items) old.ids.items) places) c.as_slice-in-Resort.ensures.value
    (subst (λ (l : List (Vec ℕ)). IsSorted (row_cmp (columns_by c.as_slice-in-Resort.result.now) (codes_in l) old.ids.items) places) c.as_slice-columns.ensures.value
    (subst (λ (l : List ℕ). IsSorted (row_cmp (columns_by c.as_slice-in-Resort.result.now) (codes_in c.as_slice-columns.result.now) l) places) c.as_slice-in-Resort-2.ensures.value c.in_ok-places-in-Resort.ensures.sorted)))
    (c.in_ok-olds-in-Resort.ensures (Closed 0) ∙ (λ i. map (λ p. get_or (c.as_slice-in-Resort-3.ensures.value i) p (Closed 0)) (c.as_slice-in-Resort-4.ensures.value i)))
    (c.in_ok-ids-in-Resort.ensures 0 ∙ (λ i. map (λ p. get_or (c.as_slice-in-Resort-5.ensures.value i) p 0) (c.as_slice-in-Resort-6.ensures.value i)))
    refl
    (c.in_ok-codes-in-Resort.ensures ∙ (λ i. map (λ (column : List ℕ). map (λ p. get_or column p 0) (c.as_slice-in-Resort-7.ensures.value i)) (codes_in (c.as_slice-columns.ensures.value i))))
