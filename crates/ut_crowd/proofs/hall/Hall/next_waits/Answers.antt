use Rattle.std.proofs.Common.{◌∙◌, Option, ap}
use Rattle.std.specs.Prelude.{is_some}
use Rattle.ut_plain.specs.declared.statement.Statement.{Statement}
use Rattle.ut_crowd.specs.Asking.{waits}
use Rattle.ut_crowd.proofs.hall.Hall.next_waits.Goals as goal

pub returns : goal.returns
returns g c = c.has_to_wait.ensures ∙ ap (λ (o : Option Statement). waits (is_some c.args.self.now.engine.store.store.counts.pending) o) c.next_piece-piece.ensures.next
