use Rattle.std.proofs.Common.{◌≡◌, ap, subst, sym}
use Rattle.std.specs.Prelude.{⊤, true}
use Rattle.ut_files.specs.FileSets.{is_in}
use Rattle.ut_files.specs.Deeds.{IsOpening}
use Rattle.ut_files.proofs.StandingLemmas.{stands_noted}
use Rattle.ut_files.proofs.CallLemmas.{does_last, did_last, found_named}
use Rattle.ut_files.proofs.files.StoreFiles.sync.Goals as goal

pub invariant_of-self : goal.invariant_of-self
invariant_of-self g c = stands_noted _ _ c.sync.result _ _ _ _ c.sync.ensures (λ x file. tt) c.self.invariant

pub returns : goal.returns
returns g c = record {
  does = did_last c.args.file IsOpening _ _ _ _ c.sync.result _ _ ⊤ c.in_ok-reach.ensures.opens
      (c.self.invariant.names c.args.file (subst (λ f. is_in c.args.file f.named ≡ true) (sym c.self.view_is) (found_named _ _ c.in_ok-reach.field-0 c.if-not-branch.false c.in_ok-reach.ensures.found)))
      (ap (λ f. f.done) c.self.view_is) c.sync.ensures tt;
}
