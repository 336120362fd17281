use Rattle.std.proofs.Common.{◌∙◌}
use Rattle.ut_main.proofs.ReadLemmas.{column-written}
use Rattle.ut_main.proofs.bytes.append_column.Goals as goal

pub returns-clause-ok : goal.returns-clause-ok
returns-clause-ok c =
    column-written c.args.column.now c.deref.result.now c.codes.result.now c.args.out.now.items c.bytes_of.new.out.items c.bytes_of-2.new.out.items
    (c.deref.ensures ∙ c.dict.ensures) c.codes.ensures c.in_ok-bytes_of.ensures.ok c.in_ok-bytes_of-2.ensures.ok
