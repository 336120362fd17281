use Rattle.std.specs.Prelude.{codes, decimal, ◌∷◌, []}
use Rattle.ut_app.specs.Figures.{sum_text}
use Rattle.ut_app.proofs.FigureLemmas.{line-put}
use Rattle.ut_app.proofs.figures.put_figures.Goals as goal

pub returns : goal.returns
returns c =
    let f = c.args.figures.now in
    line-put c.args.text.now.items (codes "bench lines ") (decimal f.lines) (codes " commits ") (decimal f.commits) (codes " refused ") (decimal f.refused) (codes " rows ") (decimal f.rows) (codes " total ") (sum_text f.total) (10 ∷ []) _ _ _ _ _ _
    c.in_ok-put_named.ensures c.in_ok-put_named-2.ensures c.in_ok-put_named-3.ensures c.in_ok-put_named-4.ensures c.in_ok-put_total.ensures c.in_ok-extend_from_slice.ensures.items
