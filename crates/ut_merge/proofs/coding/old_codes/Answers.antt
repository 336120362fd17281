use Rattle.std.proofs.Common.{map, subst}
use Rattle.rayon.proofs.ListFacts.{IfOk-then}
use Rattle.ut_l2.specs.KeyRows.{cells_at}
use Rattle.ut_merge.specs.Jobs.{JobValue, row_of}
use Rattle.ut_merge.specs.Columns.{laid_keys, AreCoded}
use Rattle.ut_merge.proofs.coding.old_codes.Goals as goal

pub returns : goal.returns
returns g c =
    let s = c.in_ok-sources.sources in
    let column = c.args.column in
    let olds = c.args.olds.now in
    IfOk-then c.gather.result _ _ c.gather.ensures (λ codes coded.
    subst (λ (j : JobValue). AreCoded (laid_keys j column) (cells_at column (map (row_of j) olds)) codes.items) c.in_ok-sources.ensures.job
    (subst (λ n. AreCoded (laid_keys s.job.now n) (cells_at n (map (row_of s.job.now) olds)) codes.items) c.in_ok-sources.ensures.column coded))
