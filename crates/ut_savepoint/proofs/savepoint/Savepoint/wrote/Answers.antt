use Rattle.std.proofs.Common.{◌<◌, length, subst, sym, arith}
use Rattle.ut_durable.specs.Saving.{Saving}
use Rattle.ut_savepoint.proofs.CutLemmas.{length-planned}
use Rattle.ut_savepoint.proofs.savepoint.Savepoint.wrote.Goals as goal

pub overflow_add-self : goal.overflow_add-self
overflow_add-self c =
    let few : c.self.inside.done < length _ = subst (λ (s : Saving). s.done < length s.planned) (sym c.self.view_is) c.requires in
    omega (arith, few, length-planned c.self.inside.writes.items)
