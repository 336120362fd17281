use Rattle.std.proofs.Common.{ap, ◌∙◌}
use Rattle.ut_files.proofs.DeedLemmas.{filled_now, filled_kept}
use Rattle.ut_files.proofs.StandingLemmas.{stands_failed, stands_added, stands_found, stands_missing}
use Rattle.ut_files.proofs.files.StoreFiles.look.Goals as goal

pub open-requires : goal.open-requires
open-requires g c = filled_now _ _ c.in_ok-fill_streams.ensures

pub invariant_of-self-in_err-open : goal.invariant_of-self-in_err-open
invariant_of-self-in_err-open g c = stands_failed _ _ _ _ c.in_err-open.ensures
    (stands_added _ _ _ _ _ _ c.in_ok-fill_streams.ensures tt (λ file is. tt) c.self.invariant)

pub invariant_of-self-then-branch : goal.invariant_of-self-then-branch
invariant_of-self-then-branch g c = stands_found _ _ c.in_ok-open.field-0 _ _ c.in_ok-open.ensures (ap (λ f. f.hold) c.self.view_is ∙ c.requires)
    (stands_added _ _ _ _ _ _ c.in_ok-fill_streams.ensures tt (λ file is. tt) c.self.invariant)

pub lock-requires : goal.lock-requires
lock-requires g c = filled_kept _ _ _ _ c.in_ok-open.ensures (filled_now _ _ c.in_ok-fill_streams.ensures)

pub invariant_of-self-2 : goal.invariant_of-self-2
invariant_of-self-2 g c = stands_missing _ _ c.in_ok-open.field-0 c.self.inside.hold _ (filled_now _ _ c.in_ok-fill_streams.ensures) c.if-branch.false
    c.in_ok-open.ensures (ap (λ f. f.hold) c.self.view_is ∙ c.requires)
    (stands_added _ _ _ _ _ _ c.in_ok-fill_streams.ensures tt (λ file is. tt) c.self.invariant)
