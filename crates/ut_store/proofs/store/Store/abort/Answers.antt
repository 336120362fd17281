use Rattle.std.proofs.Common.{◌≡◌, Some, sym, subst}
use Rattle.ut_plain.specs.declared.reply.Refusal.TheVariants as refusals
use Rattle.ut_plain.specs.declared.reply.Why.TheVariants as whys
use Rattle.ut_names.specs.declared.bound.Task.TheVariants as tasks
use Rattle.ut_txn.specs.Seats.{opened_at}
use Rattle.ut_store.specs.declared.outcome.Outcome.TheVariants as outcomes
use Rattle.ut_store.specs.Executing.{Executes}
use Rattle.ut_store.specs.Held.{Held}
use Rattle.ut_store.specs.contracts.store.Store.{the_view}
use Rattle.ut_store.proofs.TransactionLemmas.{runs}
use Rattle.ut_store.proofs.AskedTurnLemmas.{abort_closed, abort_done}
use Rattle.ut_store.proofs.store.Store.abort.Goals as goal

pub returns-in_default : goal.returns-in_default
returns-in_default c =
    subst (λ (e : Held). Executes e c.args.session tasks.Abort (outcomes.Refused (refusals.State whys.TxnClosed)) e) c.self.view_is
    (abort_closed (the_view c.self.inside) c.args.session c.requires.seat (sym c.in_default.ensures))

pub forget-requires-clause-opened : goal.forget-requires-clause-opened
forget-requires-clause-opened c = subst (λ (e : Held). opened_at e.seats c.args.session ≡ Some c.in-Some.opened) c.self.view_is (sym c.in-Some.ensures)

pub forget-requires-clause-may : goal.forget-requires-clause-may
forget-requires-clause-may c =
    runs c.args.self.now c.args.session c.in-Some.opened c.requires.stands (subst (λ (e : Held). opened_at e.seats c.args.session ≡ Some c.in-Some.opened) c.self.view_is (sym c.in-Some.ensures))

pub returns : goal.returns
returns c =
    abort_done c.args.self.now c.args.session c.forget.new.self c.in-Some.opened c.requires.seat
    (subst (λ (e : Held). opened_at e.seats c.args.session ≡ Some c.in-Some.opened) c.self.view_is (sym c.in-Some.ensures)) c.forget.ensures
