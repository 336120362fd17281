use Rattle.ut_entry.proofs.EntryLemmas.{entry_found, no_entry}
use Rattle.ut_entry.proofs.entry.entry_from.Goals as goal

pub returns-in-Some-clause-found : goal.returns-in-Some-clause-found
returns-in-Some-clause-found c =
    let found = rw c.in-Some.is at c.in_ok-entry.ensures.found in
    entry_found c.args.bytes.now c.in-Some.rest.now c.min.result c.in-Some.entry c.min.ensures found

pub returns-in-None-clause-none : goal.returns-in-None-clause-none
returns-in-None-clause-none c =
    let none = rw c.in-None.is at c.in_ok-entry.ensures.none in
    no_entry c.args.bytes.now c.min.result c.min.ensures none
