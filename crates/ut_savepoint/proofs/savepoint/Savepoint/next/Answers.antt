use Rattle.std.proofs.Common.{◌≡◌, ◌≤◌, List, Some, length, subst}
use Rattle.std.specs.Prelude.{MatchOption, slice_get}
use Rattle.ut_durable.specs.Saving.{Saving}
use Rattle.ut_savepoint.specs.declared.cut.PageWrite.{PageWrite}
use Rattle.ut_savepoint.specs.Writes.{planned_write, planned_in}
use Rattle.ut_savepoint.proofs.CutLemmas.{next_is}
use Rattle.ut_savepoint.proofs.savepoint.Savepoint.next.Goals as goal

pub returns : goal.returns
returns c =
    let i = c.self.inside.done in
    let found = next_is c.get.result (λ write. write.now) c.deref.result.now i c.get.ensures.lookup.0 c.get.ensures.lookup.1 in
    subst (λ (s : Saving). MatchOption c.get.result (length s.planned ≤ s.done) (λ write. slice_get s.planned s.done ≡ Some (planned_write write.now))) c.self.view_is
    (subst (λ (l : List PageWrite). MatchOption c.get.result (length (planned_in l) ≤ i) (λ write. slice_get (planned_in l) i ≡ Some (planned_write write.now))) c.deref.ensures.value found)
