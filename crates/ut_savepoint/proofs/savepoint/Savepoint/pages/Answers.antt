use Rattle.std.proofs.Common.{length, ap, arith}
use Rattle.ut_durable.specs.Saving.{Saving}
use Rattle.ut_savepoint.proofs.CutLemmas.{length-planned}
use Rattle.ut_savepoint.proofs.savepoint.Savepoint.pages.Goals as goal

pub returns : goal.returns
returns c = omega (arith, length-planned c.self.inside.writes.items, ap (λ (s : Saving). length s.planned) c.self.view_is)
