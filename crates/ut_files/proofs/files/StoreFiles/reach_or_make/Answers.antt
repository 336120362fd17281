use Rattle.std.proofs.Common.{ap, sym, ◌∙◌}
use Rattle.ut_files.specs.Deeds.{AreFilled}
use Rattle.ut_files.proofs.DeedLemmas.{filled_kept, held_kept}
use Rattle.ut_files.proofs.StandingLemmas.{stands_failed, stands_opened, stands_made, opening_keeps_pages, other_than_pages, is_held, is_filled}
use Rattle.ut_files.proofs.CallLemmas.{makes_open, makes_file, makes_more, then_ok}
use Rattle.ut_files.proofs.files.StoreFiles.reach_or_make.Goals as goal

pub invariant_of-self-then-branch : goal.invariant_of-self-then-branch
invariant_of-self-then-branch g c = stands_opened _ _ c.args.file c.in_ok-open.field-0 _ _ c.in_ok-open.ensures
    (other_than_pages _ _ _ c.args.file (ap (λ f. f.hold) c.self.view_is ∙ c.in_ok-take.ensures.held) (sym c.if-has.ensures) c.self.invariant) (sym c.if-has.ensures) c.self.invariant

pub returns-then-branch-clause-makes : goal.returns-then-branch-clause-makes
returns-then-branch-clause-makes g c = then_ok c.name.result (λ opens. makes_more c.args.file _ _ _
    (makes_open c.args.file _ _ _ _ c.in_ok-open.field-0 c.in_ok-take.ensures.makes (ap (λ f. f.done) c.self.view_is) c.in_ok-open.ensures) opens) c.name.ensures.opens

pub make-requires-clause-filled : goal.make-requires-clause-filled
make-requires-clause-filled g c = filled_kept _ _ _ _ c.in_ok-open.ensures (is_filled _ c.self.inside.hold c.self.inside.named (ap (λ f. f.hold) c.self.view_is ∙ c.in_ok-take.ensures.held) c.self.invariant)

pub make-requires-clause-held : goal.make-requires-clause-held
make-requires-clause-held g c = λ other. held_kept _ _ _ _ c.in_ok-open.ensures (opening_keeps_pages c.args.file c.in_ok-open.field-0 other)
    (is_held _ c.self.inside.hold c.self.inside.named (ap (λ f. f.hold) c.self.view_is ∙ c.in_ok-take.ensures.held) c.self.invariant)

pub invariant_of-self-in_err-make : goal.invariant_of-self-in_err-make
invariant_of-self-in_err-make g c = stands_failed _ _ _ _ c.in_err-make.ensures
    (stands_opened _ _ c.args.file c.in_ok-open.field-0 _ _ c.in_ok-open.ensures
    (other_than_pages _ _ _ c.args.file (ap (λ f. f.hold) c.self.view_is ∙ c.in_ok-take.ensures.held) (sym c.if-has.ensures) c.self.invariant) (sym c.if-has.ensures) c.self.invariant)

pub invariant_of-self-2 : goal.invariant_of-self-2
invariant_of-self-2 g c =
    let other = other_than_pages _ c.self.inside.hold c.self.inside.named c.args.file (ap (λ f. f.hold) c.self.view_is ∙ c.in_ok-take.ensures.held) (sym c.if-has.ensures) c.self.invariant in
    stands_made _ _ c.args.file _ _ c.in_ok-make.ensures other (sym c.if-has.ensures)
    (stands_opened _ _ c.args.file c.in_ok-open.field-0 _ _ c.in_ok-open.ensures other (sym c.if-has.ensures) c.self.invariant)

pub returns-clause-makes : goal.returns-clause-makes
returns-clause-makes g c = then_ok c.name-2.result (λ opens. makes_more c.args.file _ _ _
    (makes_file c.args.file _ _ _
    (makes_open c.args.file _ _ _ _ c.in_ok-open.field-0 c.in_ok-take.ensures.makes (ap (λ f. f.done) c.self.view_is) c.in_ok-open.ensures) c.in_ok-make.ensures)
    opens) c.name-2.ensures.opens
