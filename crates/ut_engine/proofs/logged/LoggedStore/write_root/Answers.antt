use Rattle.ut_engine.proofs.PagesLemmas.{files_settled}
use Rattle.ut_engine.proofs.RootLemmas.{sealed_root}
use Rattle.ut_engine.proofs.logged.LoggedStore.write_root.Goals as goal

pub seal-requires-clause-settled : goal.seal-requires-clause-settled
seal-requires-clause-settled g c = files_settled c.args.self.now _ c.requires

pub returns-clause-written : goal.returns-clause-written
returns-clause-written g c =
    sealed_root c.args.self.now _ _ c.in-Some.savepoint c.seal-2.new.self c.seal.new.self c.root.result.now c.in-Some.is c.root.ensures c.seal-2.ensures c.in_ok-seal.ensures.same c.in_ok-seal.ensures.ready
