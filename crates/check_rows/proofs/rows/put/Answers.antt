use Rattle.std.proofs.Common.{◌≡◌, ◌++◌, take, drop, sym, ap, ◌∙◌, subst, arith}
use Rattle.std.specs.Ordering.{nat_cmp}
use Rattle.std.specs.FinMap.Entries.{put}
use Rattle.check_rows.proofs.ListedLemmas.{put_over}
use Rattle.check_rows.proofs.rows.put.Goals as goal

pub returns-then-index-id : goal.returns-then-index-id
returns-then-index-id c =
    let before = subst (λ rows. put nat_cmp c.args.id c.args.row rows ≡ take c.place_for-place.result rows ++ put nat_cmp c.args.id c.args.row (drop c.place_for-place.result rows)) c.as_slice.ensures.value (c.place_for-place.ensures.before c.args.row) in
    sym (put_over c.args.rows.now.items c.place_for-place.result c.args.id c.args.row c.index.result.now before (omega arith) (sym (ap (λ e. e.0) c.index.ensures) ∙ c.if-index-id.true))
