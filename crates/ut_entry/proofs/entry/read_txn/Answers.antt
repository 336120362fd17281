use Rattle.std.proofs.Common.{◌≡◌, ◌<◌, ◌^◌, rules, arith}
use Rattle.ut_entry.proofs.EntryLemmas.{no_count, no_ops}
use Rattle.ut_value.proofs.OneSpelling.{one_op}
use Rattle.ut_entry.proofs.entry.read_txn.Goals as goal

pub read_list-requires : goal.read_list-requires
read_list-requires c = one_op

pub returns-then-count-lt-LEAST_OPS-clause-none : goal.returns-then-count-lt-LEAST_OPS-clause-none
returns-then-count-lt-LEAST_OPS-clause-none c =
    let few : c.in-Some.count < 2 ^ 32 = search rules in
    no_count c.in-Some.count c.args.bytes.now c.in-Some.rest.now few c.in-Some.ensures.found (let none : c.in-Some.count ≡ 0 = omega (arith, c.if-count-lt-LEAST_OPS.true) in none)

pub returns-in_default-2-clause-none : goal.returns-in_default-2-clause-none
returns-in_default-2-clause-none c =
    let none = rw c.in_default-2.is at c.in_ok-ops.ensures.none in
    let few : c.in-Some.count < 2 ^ 32 = search rules in
    no_ops c.in-Some.count c.args.bytes.now c.in-Some.rest.now few c.in-Some.ensures.found none
