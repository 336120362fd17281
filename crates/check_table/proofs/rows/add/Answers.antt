use Rattle.std.proofs.Common.{◌+◌, sym, subst}
use Rattle.std.specs.Prelude.{OnOk}
use Rattle.ut_table.specs.Numbered.{IsAtRest}
use Rattle.check_table.proofs.rows.add.Goals as goal

pub insert-requires-clause-rest : goal.insert-requires-clause-rest
insert-requires-clause-rest g c = subst (λ k. IsAtRest k c.args.table.now.stages) (sym c.in_ok-row.ensures) c.requires.rest

pub load-requires-clause-rest : goal.load-requires-clause-rest
load-requires-clause-rest g c = subst (λ k. IsAtRest k c.args.table.now.stages) (sym c.in_ok-row.ensures) c.requires.rest

pub returns-in-First : goal.returns-in-First
returns-in-First g c = subst (λ k. OnOk c.insert.result (IsAtRest (k + 1) c.insert.new.table.stages)) c.in_ok-row.ensures c.insert.ensures

pub returns-in-Second : goal.returns-in-Second
returns-in-Second g c = subst (λ k. OnOk c.load.result (IsAtRest (k + 1) c.load.new.table.stages)) c.in_ok-row.ensures c.load.ensures
