use Rattle.std.proofs.Common.{◌≡◌, ◌<◌, ◌+◌, Some, true, length, nat_lt, ap, sym, subst, arith}
use Rattle.ut_names.specs.declared.bound.Task.TheVariants as tasks
use Rattle.ut_txn.specs.Seats.{opened_at, payload_at}
use Rattle.ut_tables.specs.Rows.{RowsValue}
use Rattle.ut_store.specs.declared.outcome.Outcome.TheVariants as outcomes
use Rattle.ut_store.specs.Executing.{Executes}
use Rattle.ut_store.specs.Held.{Held}
use Rattle.ut_store.specs.Standing.{Stands}
use Rattle.ut_store.specs.contracts.store.Store.{the_view}
use Rattle.ut_store.proofs.NumberLemmas.{are_small}
use Rattle.ut_store.proofs.TransactionLemmas.{runs}
use Rattle.ut_store.proofs.AskedTurnLemmas.{commit_done}
use Rattle.ut_store.proofs.store.Store.commit_own.Goals as goal

pub overflow_add-self-2 : goal.overflow_add-self-2
overflow_add-self-2 c =
    let small = are_small (the_view c.self.inside) (subst Stands (sym c.self.view_is) c.requires.may.stands) in
    let few = small.entries in
    let fewer = small.commits in
    omega (arith, few, fewer)

pub commit-requires : goal.commit-requires
commit-requires c = runs (the_view c.self.inside) c.args.session c.args.opened (subst Stands (sym c.self.view_is) c.requires.may.stands) (subst (λ (x : Held). opened_at x.seats c.args.session ≡ Some c.args.opened) (sym c.self.view_is) c.requires.opened)

pub returns : goal.returns
returns c =
    let e = the_view c.self.inside in
    subst (λ (x : Held). Executes x c.args.session tasks.Commit (outcomes.Committed (e.counts.commits + 1)) (record e { rows = c.commit.new.self.rows; seats = c.take_frame.new.self; counts = record e.counts { commits = e.counts.commits + 1; entries = e.counts.entries + 1 }; frame = c.take_frame.new.out.payload })) c.self.view_is
    (commit_done e c.args.session c.commit.new.self.rows c.take_frame.new.self c.take_frame.new.out.payload c.args.opened c.requires.may.seat
    (subst (λ (x : Held). opened_at x.seats c.args.session ≡ Some c.args.opened) (sym c.self.view_is) c.requires.opened)
    (subst (λ (x : Held). nat_lt 5 (length (payload_at x.seats c.args.session)) ≡ true) (sym c.self.view_is) c.requires.own)
    (subst (λ (x : Held). x.counts.entries < 1073741823) (sym c.self.view_is) c.requires.room)
    (ap (λ (v : RowsValue). v.rows) c.commit.ensures) c.take_frame.ensures.out c.take_frame.ensures.set)
