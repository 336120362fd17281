use Rattle.std.proofs.Common.{◌<◌, length, get_or, [], sym, ap, subst, arith}
use Rattle.std.specs.Arc.{arc_value}
use Rattle.std.proofs.lemmas.List.{length-map}
use Rattle.ut_prefix.specs.Chain.{end_to_end}
use Rattle.ut_main.specs.Columns.{ColumnValue}
use Rattle.ut_main.proofs.ColumnLemmas.{column-code}
use Rattle.ut_main.proofs.column.CodedColumn.key.Goals as goal

pub key-requires : goal.key-requires
key-requires g c =
    let keys = end_to_end c.self.inside.chain in
    let size = length-map c.self.inside.codes.codes (λ code. get_or keys code []) in
    let within : c.args.i < length c.self.inside.codes.codes = omega (arith, c.requires, ap (λ (v : ColumnValue). length v.cells) c.self.view_is, size) in
    subst (λ n. n < length keys) (sym c.get.ensures) (column-code (arc_value c.self.inside.dict) c.self.inside.chain c.self.inside.codes c.self.invariant c.args.i within)
