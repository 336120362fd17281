use Rattle.std.proofs.Common.{◌≡◌, ◌*◌, ◌/◌, length, sym, ap, subst, arith}
use Rattle.std.proofs.Math.Nat.{mod-add-div'}
use Rattle.check_table.proofs.FlatLemmas.{are-flat, rows-count}
use Rattle.check_table.proofs.load.append.Goals as goal

pub append_values-requires : goal.append_values-requires
append_values-requires g c =
    let vs = c.args.values.now in
    let w = c.args.l2.now.width in
    let part = mod-add-div' (length vs) c.args.width in
    let whole = subst (λ m. length vs ≡ length vs / m * m) (sym c.requires) (omega (arith, part)) in
    let same = ap (λ m. length vs / m) c.requires in
    let many = rows-count (length vs / w) c.args.first_id w vs in
    (are-flat (length vs / w) c.args.first_id w vs whole, (omega (arith, c.requires), (omega (arith, many, same), omega (arith, many, same, c.len.ensures.len))))
