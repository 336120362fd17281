use Rattle.std.proofs.Common.{Bool, Option, ap, ◌∙◌}
use Rattle.std.specs.Prelude.{is_some}
use Rattle.ut_plain.specs.declared.stage.PendingMerge.{PendingMerge}
use Rattle.ut_crowd.specs.Asking.{waits}
use Rattle.ut_crowd.proofs.hall.Hall.has_to_wait.Goals as goal

pub returns : goal.returns
returns g c = c.waits.ensures ∙ ap (λ (b : Bool). waits b c.args.piece.now) (c.is_some.ensures ∙ ap (λ (o : Option PendingMerge). is_some o) c.pending.ensures)
