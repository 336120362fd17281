use Rattle.std.proofs.Common.{ap, ◌∙◌}
use Rattle.ut_files.proofs.DeedLemmas.{filled_kept}
use Rattle.ut_files.proofs.StandingLemmas.{stands_making, filled_missing}
use Rattle.ut_files.proofs.files.StoreFiles.make.Goals as goal

pub invariant_of-self-2 : goal.invariant_of-self-2
invariant_of-self-2 g c = stands_making _ _ c.self.inside.hold _ c.in_ok-make.ensures (ap (λ f. f.hold) c.self.view_is ∙ c.requires) c.self.invariant

pub lock-requires : goal.lock-requires
lock-requires g c = filled_kept _ _ _ _ c.in_ok-make.ensures (filled_missing _ c.self.inside.hold c.self.inside.named (ap (λ f. f.hold) c.self.view_is ∙ c.requires) c.self.invariant)
