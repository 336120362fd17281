use Rattle.std.proofs.Common.{sym, ◌∙◌, ap}
use Rattle.ut_entry.proofs.EntryLemmas.{columns_refused}
use Rattle.ut_value.specs.Spelling.{names_differ}
use Rattle.ut_value.proofs.OneSpelling.{one_column}
use Rattle.ut_entry.proofs.parts.read_columns.Goals as goal

pub read_list-requires : goal.read_list-requires
read_list-requires c = one_column

pub returns-then-not-names_differ-clause-none : goal.returns-then-not-names_differ-clause-none
returns-then-not-names_differ-clause-none c =
    let found = rw c.in-Some-2.is at c.in_ok-columns.ensures.found in
    let many = found.0 ∙ c.from.ensures in
    columns_refused c.in-Some-2.columns c.in-Some.count c.in-Some.rest.now c.in-Some-2.behind.now c.args.bytes.now c.in-Some.ensures.found many found.1 found.2
    (ap names_differ (sym c.as_slice.ensures) ∙ sym c.if-not-names_differ.ensures)
