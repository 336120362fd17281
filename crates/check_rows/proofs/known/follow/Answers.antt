use Rattle.std.proofs.Common.{◌+◌, [], ◌∷◌, sym, ap, ◌∙◌, subst, refl}
use Rattle.check_rows.specs.Listed.{listed_all}
use Rattle.check_rows.specs.Known.{Follows}
use Rattle.check_rows.proofs.KnownLemmas.{txn_follows}
use Rattle.check_rows.proofs.known.follow.Goals as goal

pub returns-in_ok-apply_all-in-Txn-clause-state : goal.returns-in_ok-apply_all-in-Txn-clause-state
returns-in_ok-apply_all-in-Txn-clause-state c =
    let new = record c.args.known.now { rows = c.apply_all.new.rows; commits = c.args.known.now.commits + 1 } in
    subst (λ e. Follows c.args.known.now (e ∷ []) new) (sym c.in-Txn.is)
    (txn_follows c.args.known.now new c.in-Txn.ops refl (c.in_ok-apply_all-in-Txn.ensures ∙ ap (listed_all c.args.known.now.rows.items) c.as_slice.ensures) refl refl)
