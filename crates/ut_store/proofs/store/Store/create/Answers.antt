use Rattle.std.proofs.Common.{ℕ, ◌≡◌, ◌≤◌, ◌<◌, inl, inr, true, false, is_some, sym, ap, ◌∙◌, subst, length, arith}
use Rattle.ut_names.specs.declared.bound.Task.TheVariants as tasks
use Rattle.ut_txn.specs.Seats.{opened_at}
use Rattle.ut_store.specs.declared.outcome.Outcome.{Outcome}
use Rattle.ut_store.specs.declared.outcome.Outcome.TheVariants as outcomes
use Rattle.ut_store.specs.Executing.{Executes}
use Rattle.ut_store.specs.Held.{Held}
use Rattle.ut_store.specs.contracts.store.Store.{the_view}
use Rattle.ut_store.proofs.NumberLemmas.{are_small}
use Rattle.ut_store.proofs.AskedTableLemmas.{creating_few, creating_spelled, create_open, create_long, create_lacks, create_done}
use Rattle.ut_store.proofs.store.Store.create.Goals as goal
use Rattle.ut_store.proofs.store.Store.create.Goals.{in-Err, in-Ok, then-table_count-ge-TABLES_LIMIT-via-then-table_count-ge-TABLES_LIMIT, then-table_count-ge-TABLES_LIMIT-via-else-table_count-ge-TABLES_LIMIT+then-self-ge-ENTRIES_LIMIT}

pub returns-then-is_some : goal.returns-then-is_some
returns-then-is_some c =
    create_open c.args.self.now c.args.session c.args.table c.requires.seat
    (subst (λ (e : Held). is_some (opened_at e.seats c.args.session) ≡ true) c.self.view_is (ap is_some (sym c.opened.ensures) ∙ sym c.is_some.ensures ∙ c.if-is_some.true))

pub returns-then-table_count-ge-TABLES_LIMIT : goal.returns-then-table_count-ge-TABLES_LIMIT
returns-then-table_count-ge-TABLES_LIMIT c =
    let closed : is_some (opened_at c.args.self.now.seats c.args.session) ≡ false = subst (λ (e : Held). is_some (opened_at e.seats c.args.session) ≡ false) c.self.view_is (ap is_some (sym c.opened.ensures) ∙ sym c.is_some.ensures ∙ c.if-is_some.false) in
    elim c.then-table_count-ge-TABLES_LIMIT.branch [
      | then-table_count-ge-TABLES_LIMIT-via-then-table_count-ge-TABLES_LIMIT w ↦
          create_long c.args.self.now c.args.session c.args.table c.requires.seat closed
          (inl (subst (λ (e : Held). 256 ≤ length e.rows.tables) c.self.view_is (omega (arith, c.table_count.ensures, w.if-table_count-ge-TABLES_LIMIT.true))))
      | then-table_count-ge-TABLES_LIMIT-via-else-table_count-ge-TABLES_LIMIT+then-self-ge-ENTRIES_LIMIT w ↦
          create_long c.args.self.now c.args.session c.args.table c.requires.seat closed
          (inr (subst (λ (e : Held). 1073741823 ≤ e.counts.entries) c.self.view_is w.if-self-ge-ENTRIES_LIMIT.true))
    ]

pub add_table-requires-clause-spelled : goal.add_table-requires-clause-spelled
add_table-requires-clause-spelled c =
    creating_spelled c.args.self.now c.args.session c.args.table c.requires
    (subst (λ (e : Held). is_some (opened_at e.seats c.args.session) ≡ false) c.self.view_is (ap is_some (sym c.opened.ensures) ∙ sym c.is_some.ensures ∙ c.if-is_some.false))

pub add_table-requires-clause-few : goal.add_table-requires-clause-few
add_table-requires-clause-few c = creating_few c.args.self.now c.args.session c.args.table c.requires

pub add_table-requires-clause-commits : goal.add_table-requires-clause-commits
add_table-requires-clause-commits c =
    let small = are_small c.args.self.now c.requires.stands in
    let fewer = small.commits in
    let short = subst (λ (e : Held). e.counts.entries < 1073741823) c.self.view_is c.if-self-ge-ENTRIES_LIMIT.false in
    omega (arith, fewer, short)

few_tables : (e now : Held) (n : ℕ) → e ≡ now → n ≡ length e.rows.tables → n < 256 → length now.rows.tables < 256
few_tables e now n same count few = omega (arith, ap (λ (x : Held). length x.rows.tables) same)

pub returns : goal.returns
returns c =
    let closed : is_some (opened_at c.args.self.now.seats c.args.session) ≡ false = subst (λ (e : Held). is_some (opened_at e.seats c.args.session) ≡ false) c.self.view_is (ap is_some (sym c.opened.ensures) ∙ sym c.is_some.ensures ∙ c.if-is_some.false) in
    let count : c.table_count.result ≡ length (the_view c.self.inside).rows.tables = omega (arith, c.table_count.ensures) in
    let few : length c.args.self.now.rows.tables < 256 = few_tables (the_view c.self.inside) c.args.self.now c.table_count.result c.self.view_is count c.if-table_count-ge-TABLES_LIMIT.false in
    let short = subst (λ (e : Held). e.counts.entries < 1073741823) c.self.view_is c.if-self-ge-ENTRIES_LIMIT.false in
    elim c.match-add_table.branch [
      | in-Err w ↦
          subst (λ (o : Outcome). Executes c.args.self.now c.args.session (tasks.Create c.args.table) o c.add_table.new.self) (sym w.result-is)
          (create_lacks c.args.self.now c.args.session c.args.table c.add_table.new.self w.in-Err.ensures.err)
      | in-Ok w ↦
          subst (λ (o : Outcome). Executes c.args.self.now c.args.session (tasks.Create c.args.table) o c.add_table.new.self)
          (sym (w.result-is ∙ ap (λ (e : Held). outcomes.Created e.counts.commits) c.self-2.view_is))
          (create_done c.args.self.now c.args.session c.args.table c.add_table.new.self c.requires.seat closed few short w.in-Ok.ensures.ok)
    ]
