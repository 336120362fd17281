use Rattle.std.proofs.Common.{◌≡◌, Some, true, false, length, nat_lt, sym, ◌∙◌, subst}
use Rattle.ut_plain.specs.declared.reply.Refusal.TheVariants as refusals
use Rattle.ut_plain.specs.declared.reply.Why.TheVariants as whys
use Rattle.ut_names.specs.declared.bound.Task.TheVariants as tasks
use Rattle.ut_txn.specs.Seats.{opened_at, payload_at}
use Rattle.ut_store.specs.declared.outcome.Outcome.TheVariants as outcomes
use Rattle.ut_store.specs.Executing.{Executes}
use Rattle.ut_store.specs.Held.{Held}
use Rattle.ut_store.specs.contracts.store.Store.{the_view}
use Rattle.ut_store.proofs.TransactionLemmas.{runs}
use Rattle.ut_store.proofs.AskedTurnLemmas.{commit_closed, commit_nothing, commit_long}
use Rattle.ut_store.proofs.store.Store.commit.Goals as goal

pub returns-in_default : goal.returns-in_default
returns-in_default c =
    subst (λ (e : Held). Executes e c.args.session tasks.Commit (outcomes.Refused (refusals.State whys.TxnClosed)) e) c.self.view_is
    (commit_closed (the_view c.self.inside) c.args.session c.requires.seat (sym c.in_default.ensures))

pub forget-requires-clause-opened : goal.forget-requires-clause-opened
forget-requires-clause-opened c = subst (λ (e : Held). opened_at e.seats c.args.session ≡ Some c.in-Some.opened) c.self.view_is (sym c.in-Some.ensures)

pub forget-requires-clause-may : goal.forget-requires-clause-may
forget-requires-clause-may c =
    runs c.args.self.now c.args.session c.in-Some.opened c.requires.stands (subst (λ (e : Held). opened_at e.seats c.args.session ≡ Some c.in-Some.opened) c.self.view_is (sym c.in-Some.ensures))

pub returns-then-not-has_own : goal.returns-then-not-has_own
returns-then-not-has_own c =
    commit_nothing c.args.self.now c.args.session c.forget.new.self c.in-Some.opened c.requires.seat c.requires.stands
    (subst (λ (e : Held). opened_at e.seats c.args.session ≡ Some c.in-Some.opened) c.self.view_is (sym c.in-Some.ensures))
    (subst (λ (e : Held). nat_lt 5 (length (payload_at e.seats c.args.session)) ≡ false) c.self.view_is (sym c.has_own.ensures.value ∙ c.if-not-has_own.true)) c.forget.ensures

pub returns-then-self-ge-ENTRIES_LIMIT : goal.returns-then-self-ge-ENTRIES_LIMIT
returns-then-self-ge-ENTRIES_LIMIT c =
    subst (λ (e : Held). Executes e c.args.session tasks.Commit (outcomes.Refused refusals.Full) e) c.self.view_is
    (commit_long (the_view c.self.inside) c.args.session c.in-Some.opened c.requires.seat (sym c.in-Some.ensures) (sym c.has_own.ensures.value ∙ c.if-not-has_own.false) c.if-self-ge-ENTRIES_LIMIT.true)

pub commit_own-requires-clause-opened : goal.commit_own-requires-clause-opened
commit_own-requires-clause-opened c = subst (λ (e : Held). opened_at e.seats c.args.session ≡ Some c.in-Some.opened) c.self.view_is (sym c.in-Some.ensures)

pub commit_own-requires-clause-own : goal.commit_own-requires-clause-own
commit_own-requires-clause-own c =
    subst (λ (e : Held). nat_lt 5 (length (payload_at e.seats c.args.session)) ≡ true) c.self.view_is (sym c.has_own.ensures.value ∙ c.if-not-has_own.false)
