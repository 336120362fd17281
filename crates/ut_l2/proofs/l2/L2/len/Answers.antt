use Rattle.std.proofs.Common.{◌≡◌, ◌∙◌, All, length, sym, ap, subst, arith}
use Rattle.ut_l2.specs.Delta.{Delta}
use Rattle.ut_l2.proofs.DeltaLemmas.{rows-length, rows-wide}
use Rattle.ut_l2.proofs.l2.L2.len.Goals as goal

pub returns-clause-len : goal.returns-clause-len
returns-clause-len c = ap length c.as_slice.ensures.value ∙ sym (rows-length c.self.inside.ids.items c.self.inside.columns.items) ∙ ap (λ d. length d.rows) c.self.view_is

pub returns-clause-few : goal.returns-clause-few
returns-clause-few c =
    let n = sym (rows-length c.self.inside.ids.items c.self.inside.columns.items) ∙ ap (λ d. length d.rows) c.self.view_is in
    omega (arith, n, c.self.invariant.count)

pub returns-clause-wide : goal.returns-clause-wide
returns-clause-wide c =
    subst (λ (d : Delta). All (λ row. length row.keys ≡ d.width) d.rows) c.self.view_is (rows-wide c.self.inside.ids.items c.self.inside.columns.items)
