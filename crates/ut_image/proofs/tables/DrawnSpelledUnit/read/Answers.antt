use Rattle.ut_image.proofs.NoneLemmas.{parts_fail, l2_fails, l1_fails}
use Rattle.ut_image.proofs.tables.DrawnSpelledUnit.read.Goals as goal

pub returns-in_default-2-clause-none : goal.returns-in_default-2-clause-none
returns-in_default-2-clause-none c =
    let head = rw c.in-Some.is at c.in_ok-table.ensures.found in
    let none = rw c.in_default-2.is at c.in_ok-parts.ensures.none in
    parts_fail c.in-Some.table c.in-Some.rest.now c.args.bytes.now head none

pub returns-in_default-3-clause-none : goal.returns-in_default-3-clause-none
returns-in_default-3-clause-none c =
    let head = rw c.in-Some.is at c.in_ok-table.ensures.found in
    let parts = rw c.in-Some-2.is at c.in_ok-parts.ensures.found in
    let none = rw c.in_default-3.is at c.in_ok-l2.ensures.none in
    l2_fails c.in-Some.table c.in-Some-2.parts c.in-Some.rest.now c.in-Some-2.rest.now c.args.bytes.now head parts none

pub returns-in_default-4-clause-none : goal.returns-in_default-4-clause-none
returns-in_default-4-clause-none c =
    let head = rw c.in-Some.is at c.in_ok-table.ensures.found in
    let parts = rw c.in-Some-2.is at c.in_ok-parts.ensures.found in
    let rows = rw c.in-Some-3.is at c.in_ok-l2.ensures.found in
    let none = rw c.in_default-4.is at c.in_ok-l1.ensures.none in
    l1_fails c.in-Some.table c.in-Some-2.parts c.in-Some-3.l2 c.in-Some.rest.now c.in-Some-2.rest.now c.in-Some-3.rest.now c.args.bytes.now head parts rows none
