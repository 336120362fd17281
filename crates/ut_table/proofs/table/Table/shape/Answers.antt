use Rattle.std.proofs.Common.{◌∙◌, length, ap}
use Rattle.ut_l2.specs.Delta.{Delta}
use Rattle.ut_table.specs.Contents.{TableValue}
use Rattle.ut_table.proofs.SizeLemmas.{shape-is}
use Rattle.ut_table.proofs.table.Table.shape.Goals as goal

pub returns : goal.returns
returns c =
    let view = ap (λ (v : TableValue). v.stages) c.self.view_is in
    (λ i. record { l1 = c.len.ensures.len i; l2 = (c.len-2.ensures.len ∙ ap (λ (d : Delta). length d.rows) c.deref.ensures) i; closed = c.closed_len.ensures i; parts = c.in_ok-sizes.ensures i }) ∙ shape-is c.self.invariant view
