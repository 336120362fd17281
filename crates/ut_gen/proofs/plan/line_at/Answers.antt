use Rattle.std.proofs.Common.{◌+◌, ◌-◌, ◌*◌, arith}
use Rattle.ut_gen.proofs.PlaceLemmas.{opening-at, bulk-at, first_merge-at, first_insert-at, move-at, second_insert-at, partial-at, update-at, closing-at, none-at}
use Rattle.ut_gen.proofs.plan.line_at.Goals as goal

pub returns-then-i-lt-OPENING-clause-line : goal.returns-then-i-lt-OPENING-clause-line
returns-then-i-lt-OPENING-clause-line c seed = opening-at seed c.args.size c.args.i _ c.opening_line.ensures.line

pub returns-then-i-first_merge-clause-line : goal.returns-then-i-first_merge-clause-line
returns-then-i-first_merge-clause-line c seed =
    bulk-at seed c.args.size c.args.i (c.args.i - 3) _ (omega arith) (omega arith) (omega arith)

pub returns-then-i-inserts-clause-line : goal.returns-then-i-inserts-clause-line
returns-then-i-inserts-clause-line c seed =
    first_merge-at seed c.args.size c.args.i (c.args.i - (3 + c.args.size)) _ (omega arith) c.first_merge_line.ensures.line

pub returns-then-i-moved-clause-line : goal.returns-then-i-moved-clause-line
returns-then-i-moved-clause-line c seed =
    first_insert-at seed c.args.size c.args.i (c.args.i - (9 + c.args.size)) _ (omega arith) (omega arith) (omega arith)

pub returns-then-i-moved-2-clause-line : goal.returns-then-i-moved-2-clause-line
returns-then-i-moved-2-clause-line c seed =
    move-at seed c.args.size c.args.i _ (omega arith) c.move_line.ensures.line

pub returns-then-i-partial-clause-line : goal.returns-then-i-partial-clause-line
returns-then-i-partial-clause-line c seed =
    second_insert-at seed c.args.size c.args.i (c.args.i - (10 + 11 * c.args.size)) _ (omega arith) (omega arith) (omega arith)

pub returns-then-i-updates-clause-line : goal.returns-then-i-updates-clause-line
returns-then-i-updates-clause-line c seed =
    partial-at seed c.args.size c.args.i (c.args.i - (3 + c.args.size + 6 + 10 * c.args.size + 1 + 10 * c.args.size)) _ (omega arith) c.partial_line.ensures.line

pub returns-then-i-closing-clause-line : goal.returns-then-i-closing-clause-line
returns-then-i-closing-clause-line c seed =
    update-at seed c.args.size c.args.i (c.args.i - (12 + 21 * c.args.size)) _ (omega arith) (omega arith) (omega arith)

pub returns-then-i-closing-2-clause-line : goal.returns-then-i-closing-2-clause-line
returns-then-i-closing-2-clause-line c seed =
    closing-at seed c.args.size c.args.i (c.args.i - (3 + c.args.size + 6 + 10 * c.args.size + 1 + 10 * c.args.size + 2 + 3 * c.args.size)) _ (omega arith) c.closing_line.ensures.line

pub returns-else-i-closing-2-clause-line : goal.returns-else-i-closing-2-clause-line
returns-else-i-closing-2-clause-line c seed = none-at seed c.args.size c.args.i (omega arith)
