use Rattle.std.proofs.Common.{subst, sym, ap}
use Rattle.ut_files.specs.Deeds.{AreFilled}
use Rattle.ut_files.proofs.StandingLemmas.{stands_failed, stands_added, stands_held}
use Rattle.ut_files.proofs.files.StoreFiles.lock.Goals as goal

pub invariant_of-self-in_err-sync_names : goal.invariant_of-self-in_err-sync_names
invariant_of-self-in_err-sync_names g c = stands_failed _ _ _ _ c.in_err-sync_names.ensures
    (stands_added _ _ _ _ _ _ c.in_ok-lock.ensures tt (λ file is. tt) c.self.invariant)

pub invariant_of-self-2 : goal.invariant_of-self-2
invariant_of-self-2 g c = stands_held _ _ _ c.self.inside.named c.add.new.self (subst AreFilled (sym (ap (λ f. f.done) c.self.view_is)) c.requires)
    c.in_ok-lock.ensures c.in_ok-sync_names.ensures c.add.ensures
