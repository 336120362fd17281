use Rattle.std.proofs.Common.{sym, ◌∙◌, ltb-true}
use Rattle.ut_restart.specs.Standing.{shown}
use Rattle.ut_restart.specs.Rows.{position_in}
use Rattle.ut_restart.proofs.AppliedLemmas.{MayInsert, may, inserted, kept-out}
use Rattle.ut_restart.proofs.RowsLemmas.{can-enter}
use Rattle.ut_restart.proofs.rows.Rows.insert.Goals as goal

pub returns-then-not-may_insert-clause-damaged : goal.returns-then-not-may_insert-clause-damaged
returns-then-not-may_insert-clause-damaged c = λ e. kept-out c.args.tables.now c.args.self.now c.args.table c.args.row c.requires (sym c.may_insert.ensures ∙ c.if-not-may_insert.true)

pub add-requires-clause-enters : goal.add-requires-clause-enters
add-requires-clause-enters c =
    let m : MayInsert c.args.tables.now c.args.self.now c.args.table c.args.row = may c.args.tables.now c.args.self.now c.args.table c.args.row (sym c.may_insert.ensures ∙ c.if-not-may_insert.false) in
    can-enter c.args.tables.now (shown c.args.self.now.stages.items) (position_in c.args.self.now.positions) c.args.self.now.load c.args.table c.args.row c.requires m.fits (ltb-true c.args.self.now.load 2147483648 m.few)

pub returns-clause-ok : goal.returns-clause-ok
returns-clause-ok c = inserted c.args.tables.now c.args.self.now c.add.new.self c.args.table c.args.row c.requires (sym c.may_insert.ensures ∙ c.if-not-may_insert.false) c.in_ok-add.ensures
