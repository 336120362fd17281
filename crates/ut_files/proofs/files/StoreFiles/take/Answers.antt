use Rattle.ut_outside.specs.declared.disk.Which.TheVariants.{Pages}
use Rattle.ut_files.proofs.CallLemmas.{makes_after, then_ok}
use Rattle.ut_files.proofs.files.StoreFiles.take.Goals as goal

pub returns-in-Missing-clause-makes : goal.returns-in-Missing-clause-makes
returns-in-Missing-clause-makes g c = then_ok c.make.result (λ makes. makes_after Pages _ _ _ c.in_ok-seek.ensures.opens makes) c.make.ensures.makes
