use Rattle.std.proofs.Common.{◌-◌, ◌*◌, length, ap, ◌∙◌, arith}
use Rattle.std.proofs.lemmas.List.{take_all}
use Rattle.ut_sparse.specs.Sparse.{marked}
use Rattle.ut_sparse.proofs.marks.marked_rows.Goals as goal

pub returns : goal.returns
returns c =
    let size = c.requires.0 in
    c.requires.1 (length c.args.ranks.now - 1) (omega (arith, size))
    ∙ ap (λ l. marked l) (take_all (64 * (length c.args.ranks.now - 1)) c.args.marks.now.codes (omega (arith, size)))
