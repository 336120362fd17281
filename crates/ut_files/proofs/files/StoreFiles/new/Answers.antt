use Rattle.ut_files.proofs.StandingLemmas.{stands_new}
use Rattle.ut_files.proofs.files.StoreFiles.new.Goals as goal

pub invariant_of-result : goal.invariant_of-result
invariant_of-result g c = stands_new _ _ c.empty.ensures
