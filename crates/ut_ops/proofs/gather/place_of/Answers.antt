use Rattle.std.proofs.Common.{[], ◌∷◌}
use Rattle.ut_ops.specs.Fit.{cell}
use Rattle.ut_ops.proofs.CodeLemmas.{code-cell}
use Rattle.ut_ops.proofs.SeenLemmas.{added-is, seen-more}
use Rattle.ut_ops.proofs.gather.place_of.Goals as goal

pub coded_place-requires-clause-code : goal.coded_place-requires-clause-code
coded_place-requires-clause-code c = code-cell c.args.table.now.stages c.args.column c.args.hit c.code.result c.in-Some.code c.requires.row c.requires.column c.code.ensures.value c.in-Some.is

pub returns-clause-place : goal.returns-clause-place
returns-clause-place c = added-is c.args.seen.now.values.items _ (cell c.args.table.now.stages c.args.column c.args.hit) _ c.in_ok-place-2.ensures.values c.in_ok-place-2.ensures.place

pub returns-clause-seen : goal.returns-clause-seen
returns-clause-seen c = seen-more c.args.table.now.stages c.args.column c.args.seen.now.values.items _ c.args.seen.now.marks.items (record { more = cell c.args.table.now.stages c.args.column c.args.hit ∷ []; is = c.in_ok-place-2.ensures.values }) c.requires.seen
