use Rattle.std.proofs.Common.{rules, ◌≢◌, ap, sym}
use Rattle.ut_outside.specs.declared.disk.Which.TheVariants.{Pages}
use Rattle.ut_files.proofs.StandingLemmas.{stands_opened}
use Rattle.ut_files.proofs.CallLemmas.{opens_by, opens_more}
use Rattle.ut_files.proofs.files.StoreFiles.reach.Goals as goal

pub invariant_of-self-then-not-branch : goal.invariant_of-self-then-not-branch
invariant_of-self-then-not-branch g c =
    let other : c.args.file ≢ Pages = search rules in
    stands_opened _ _ c.args.file c.in_ok-open.field-0 _ _ c.in_ok-open.ensures other (sym c.if-has.ensures) c.self.invariant

pub returns-then-not-branch-clause-opens : goal.returns-then-not-branch-clause-opens
returns-then-not-branch-clause-opens g c = opens_by _ _ _ _ c.args.file c.in_ok-open.field-0 c.in_ok-seek.ensures.opens (ap (λ f. f.done) c.self.view_is) c.in_ok-open.ensures

pub invariant_of-self-2 : goal.invariant_of-self-2
invariant_of-self-2 g c =
    let other : c.args.file ≢ Pages = search rules in
    stands_opened _ _ c.args.file c.in_ok-open.field-0 _ _ c.in_ok-open.ensures other (sym c.if-has.ensures) c.self.invariant

pub returns-clause-opens : goal.returns-clause-opens
returns-clause-opens g c = opens_more _ _ _
    (opens_by _ _ _ _ c.args.file c.in_ok-open.field-0 c.in_ok-seek.ensures.opens (ap (λ f. f.done) c.self.view_is) c.in_ok-open.ensures) c.in_ok-name.ensures.opens
