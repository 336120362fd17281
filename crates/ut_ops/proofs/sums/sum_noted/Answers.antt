use Rattle.std.proofs.Common.{refl}
use Rattle.std.proofs.lemmas.List.Elements.{All-replicate}
use Rattle.ut_ops.specs.Noted.{IsNoted}
use Rattle.ut_ops.proofs.CodeLemmas.{noted-none}
use Rattle.ut_ops.proofs.sums.sum_noted.Goals as goal

pub sum_at-requires-2-clause-noted : goal.sum_at-requires-2-clause-noted
sum_at-requires-2-clause-noted c = All-replicate (IsNoted c.args.table.now.stages c.args.column) 1024 _ (noted-none c.args.table.now.stages c.args.column _ refl)
