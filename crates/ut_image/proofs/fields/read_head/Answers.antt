use Rattle.ut_image.proofs.NoneLemmas.{no_name, no_columns}
use Rattle.ut_image.proofs.fields.read_head.Goals as goal

pub returns-in_default-clause-none : goal.returns-in_default-clause-none
returns-in_default-clause-none c = no_name c.args.bytes.now (rw c.in_default.is at c.in_ok-name.ensures.none)

pub returns-in_default-2-clause-none : goal.returns-in_default-2-clause-none
returns-in_default-2-clause-none c =
    let named = rw c.in-Some.is at c.in_ok-name.ensures.found in
    let none = rw c.in_default-2.is at c.in_ok-columns.ensures.none in
    no_columns c.in-Some.name c.in-Some.rest.now c.args.bytes.now named.1 none
