use Rattle.std.proofs.Common.{◌≡◌, ap, rules}
use Rattle.ut_durable.specs.Calls.{FilesHeld}
use Rattle.ut_engine.specs.Logged.{Logged}
use Rattle.ut_engine.specs.Saves.{Moved}
use Rattle.ut_engine.proofs.logged.LoggedStore.leave_log.Goals as goal

pub returns-clause-left : goal.returns-clause-left
returns-clause-left g c =
    let old : Logged = c.args.self.now in
    let here : old.files.log.file ≡ old.begins = search rules in
    Moved here (ap (λ (f : FilesHeld). record old { files = f }) c.in_ok-switch.ensures.place) c.in_ok-switch.ensures.moves
