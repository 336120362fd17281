use Rattle.std.proofs.Common.{◌≡◌, ap, ◌∙◌, length, get_or, arith}
use Rattle.std.proofs.lemmas.Grind.{common_steps}
use Rattle.ut_plain.specs.Stages.{stages_at}
use Rattle.ut_plain.specs.Merges.{switched}
use Rattle.ut_plain.specs.Plain.{Plain}
use Rattle.check_oracle.specs.Store.{plain_of}
use Rattle.check_oracle.proofs.ShapeLemmas.{stage_read}
use Rattle.check_oracle.proofs.HeldLemmas.{merge_ends}
use Rattle.check_oracle.proofs.merges.ended.Goals as goal

pub set_stages-requires : goal.set_stages-requires
set_stages-requires c = omega (arith, c.requires, ap (λ (p : Plain). length p.stages) c.in_ok-next.ensures)

pub returns : goal.returns
returns c =
    let m = c.args.merge in
    let all = c.args.held.now.stages.items in
    let read : c.index.result.now ≡ get_or all m.table c.index.result.now = grind (arith, common_steps) in
    let stage : c.index.result.now ≡ stages_at all m.table = stage_read all m.table c.index.result.now c.requires read in
    merge_ends (plain_of c.args.held.now) (plain_of c.in_ok-next.next) m c.in_ok-stages.stages c.set_stages.new.stages.items c.in_ok-next.ensures (c.in_ok-stages.ensures ∙ ap (switched m.kind) stage) c.set_stages.ensures
