use Rattle.std.proofs.Common.{◌∙◌, ap, sym, arith}
use Rattle.std.proofs.lemmas.Int.{ints, to_z-of_z}
use Rattle.ut_value.specs.declared.value.Value.TheVariants.{Int}
use Rattle.ut_ops.proofs.CellLemmas.{number-is}
use Rattle.ut_ops.proofs.cell.number_at.Goals as goal

pub returns : goal.returns
returns c =
    let is = number-is c.args.table.now.stages c.args.column c.args.hit c.key.result.now c.int_of.result c.requires.row c.requires.column c.key.ensures c.int_of.ensures.found c.int_of.ensures.none in
    is ∙ ap Int (sym c.unwrap_or.ensures ∙ grind (arith, ints, to_z-of_z))
