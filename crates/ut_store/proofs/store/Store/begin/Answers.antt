use Rattle.std.proofs.Common.{is_some, ap, sym, ◌∙◌, subst}
use Rattle.ut_plain.specs.declared.reply.Refusal.TheVariants as refusals
use Rattle.ut_plain.specs.declared.reply.Why.TheVariants as whys
use Rattle.ut_names.specs.declared.bound.Task.TheVariants as tasks
use Rattle.ut_tables.specs.Rows.{RowsValue}
use Rattle.ut_store.specs.declared.outcome.Outcome.TheVariants as outcomes
use Rattle.ut_store.specs.Executing.{Executes}
use Rattle.ut_store.specs.Held.{Held}
use Rattle.ut_store.specs.contracts.store.Store.{the_view}
use Rattle.ut_store.proofs.TransactionLemmas.{same_rows}
use Rattle.ut_store.proofs.AskedTurnLemmas.{begin_open, begin_lacks, begin_done}
use Rattle.ut_store.proofs.store.Store.begin.Goals as goal

pub returns-then-is_some : goal.returns-then-is_some
returns-then-is_some c =
    subst (λ (e : Held). Executes e c.args.session tasks.Begin (outcomes.Refused (refusals.State whys.TxnOpen)) e) c.self.view_is
    (begin_open (the_view c.self.inside) c.args.session c.requires.seat (ap is_some (sym c.opened.ensures) ∙ sym c.is_some.ensures ∙ c.if-is_some.true))

pub returns-in-Err : goal.returns-in-Err
returns-in-Err c =
    let new = record (the_view c.self.inside) { rows = c.start.new.self.rows } in
    subst (λ (e : Held). Executes e c.args.session tasks.Begin (outcomes.Refused refusals.Memory) new) c.self.view_is
    (begin_lacks (the_view c.self.inside) c.args.session new (same_rows (the_view c.self.inside) c.start.new.self.rows (ap (λ (v : RowsValue). v.rows) c.in-Err.ensures.err)))

pub returns-in-Ok : goal.returns-in-Ok
returns-in-Ok c =
    subst (λ (e : Held). Executes e c.args.session tasks.Begin outcomes.Done (record (the_view c.self.inside) { rows = c.start.new.self.rows; seats = c.begin.new.self })) c.self.view_is
    (begin_done (the_view c.self.inside) c.args.session c.start.new.self.rows c.begin.new.self c.in-Ok.number c.requires.seat (ap is_some (sym c.opened.ensures) ∙ sym c.is_some.ensures ∙ c.if-is_some.false)
    (ap (λ (v : RowsValue). v.rows) c.in-Ok.ensures.ok) c.in-Ok.ensures.number c.begin.ensures)
