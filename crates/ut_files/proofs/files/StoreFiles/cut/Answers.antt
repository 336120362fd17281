use Rattle.std.proofs.Common.{◌≡◌, ap, subst, sym}
use Rattle.std.specs.Prelude.{⊤, true}
use Rattle.ut_files.specs.FileSets.{is_in}
use Rattle.ut_files.specs.Deeds.{IsMaking}
use Rattle.ut_files.proofs.StandingLemmas.{stands_noted}
use Rattle.ut_files.proofs.CallLemmas.{did_last}
use Rattle.ut_files.proofs.files.StoreFiles.cut.Goals as goal

pub invariant_of-self : goal.invariant_of-self
invariant_of-self g c = stands_noted _ _ c.cut.result _ _ _ _ c.cut.ensures (λ x file. tt) c.self.invariant

pub returns : goal.returns
returns g c = record {
  does = did_last c.args.file (IsMaking c.args.file) _ _ _ _ c.cut.result _ _ (c.args.len ≡ 0) c.in_ok-reach_or_make.ensures.makes
      (c.self.invariant.names c.args.file (subst (λ f. is_in c.args.file f.named ≡ true) (sym c.self.view_is) c.in_ok-reach_or_make.ensures.named))
      (ap (λ f. f.done) c.self.view_is) c.cut.ensures tt;
}
