use Rattle.ut_files.proofs.StandingLemmas.{stands_named}
use Rattle.ut_files.proofs.files.StoreFiles.name.Goals as goal

pub invariant_of-self-2 : goal.invariant_of-self-2
invariant_of-self-2 g c = stands_named _ _ c.args.file _ c.self.inside.named c.add.new.self c.in_ok-sync_names.ensures c.add.ensures c.requires c.self.invariant
