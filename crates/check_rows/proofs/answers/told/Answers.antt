use Rattle.std.proofs.Common.{◌≡◌, sym, subst, IfOk}
use Rattle.ut_plain.specs.Query.{told}
use Rattle.check_rows.proofs.answers.told.Goals as goal

pub returns-in-Join : goal.returns-in-Join
returns-in-Join c = subst (λ query. IfOk c.join_told.result (λ reply. reply ≡ told c.args.tables.now c.args.rows.now query)) (sym c.in-Join.is) c.join_told.ensures
