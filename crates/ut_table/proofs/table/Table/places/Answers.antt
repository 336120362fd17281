use Rattle.std.proofs.Common.{length, ap, arith}
use Rattle.ut_l2.specs.Delta.{Delta}
use Rattle.ut_table.specs.Contents.{TableValue}
use Rattle.ut_table.proofs.ReadLemmas.{l2-count}
use Rattle.ut_table.proofs.SizeLemmas.{main-rows}
use Rattle.ut_table.proofs.table.Table.places.Goals as goal

pub returns : goal.returns
returns c =
    let view = ap (λ (v : TableValue). v.stages) c.self.view_is in
    omega (arith, main-rows c.self.invariant view, l2-count c.self.invariant view, c.rows.ensures.rows, c.len.ensures.len, ap (λ (d : Delta). length d.rows) c.deref.ensures)
