use Rattle.std.proofs.Common.{◌≡◌, get_or, sym, ap, ◌∙◌, subst, arith}
use Rattle.std.proofs.lemmas.Grind.{common_steps}
use Rattle.ut_plain.specs.Stages.{stages_at}
use Rattle.ut_plain.specs.Merges.{closing}
use Rattle.check_stages.specs.Needed.{AreNeeded}
use Rattle.check_oracle.specs.Store.{plain_of}
use Rattle.check_oracle.proofs.ShapeLemmas.{stage_read}
use Rattle.check_oracle.proofs.merges.closed.Goals as goal

pub returns : goal.returns
returns c =
    let p = plain_of c.args.held.now in
    let needed : AreNeeded c.as_slice.result.now p.journal p.sessions = subst (λ ids. AreNeeded ids p.journal p.sessions) (sym c.as_slice.ensures.value) c.in_ok-ids.ensures in
    let read : c.index.result.now ≡ get_or c.args.held.now.stages.items c.args.place c.index.result.now = grind (arith, common_steps) in
    let stage : c.index.result.now ≡ stages_at c.args.held.now.stages.items c.args.place = stage_read c.args.held.now.stages.items c.args.place c.index.result.now c.requires.there read in
    c.in_ok-stages.ensures p.journal p.sessions needed ∙ ap (closing p.journal p.sessions c.args.kind) stage
