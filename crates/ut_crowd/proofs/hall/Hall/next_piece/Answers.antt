use Rattle.std.proofs.Common.{ℕ, ap, ◌∙◌}
use Rattle.ut_plain.specs.declared.stage.Progress.{Progress}
use Rattle.ut_engine.specs.Savepoints.{progress_of}
use Rattle.ut_crowd.specs.Saving.{due_piece}
use Rattle.ut_crowd.proofs.hall.Hall.next_piece.Goals as goal

pub returns-clause-next : goal.returns-clause-next
returns-clause-next g c =
    let saving = c.args.self.now.engine.store.saving in
    let last = c.args.self.now.last in
    c.due_piece.ensures.due
    ∙ ap (λ (x : Progress). due_piece x c.journal_len.result last.entries last.pages) c.phase.ensures
    ∙ ap (λ (n : ℕ). due_piece (progress_of saving) n last.entries last.pages) c.journal_len.ensures
