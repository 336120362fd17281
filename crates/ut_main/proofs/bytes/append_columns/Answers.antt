use Rattle.std.proofs.Common.{take, rules}
use Rattle.std.specs.List.{flat_map}
use Rattle.ut_main.specs.Spelling.{column_bytes}
use Rattle.ut_main.proofs.WritingLemmas.{kept-more}
use Rattle.ut_main.proofs.bytes.append_columns.Goals as goal

pub returns-in_err-append_column-clause-err : goal.returns-in_err-append_column-clause-err
returns-in_err-append_column-clause-err c =
    let old = c.args.out.now.items in
    let mid = c.loop-column.out.items in
    let err = kept-more old (flat_map column_bytes (take c.loop-column.column-index c.args.columns.now)) mid c.append_column.new.out.items c.loop-column.invariant c.in_err-append_column.ensures.err in
    search (rules, err)
