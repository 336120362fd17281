use Rattle.std.proofs.Common.{sym, ◌∙◌}
use Rattle.ut_crowd.proofs.KeeperLemmas.{saver_called}
use Rattle.ut_crowd.proofs.hall.Hall.calls_saver.Goals as goal

pub returns : goal.returns
returns g c p runs =
    saver_called c.args.self.now.last c.args.self.now.engine.store (g.D.Disk.view c.args.self.now.engine.disk) c.next_piece-piece.result c.next_piece-piece.ensures.next
    c.args.self.now.save_waits c.has_to_wait-waits.result c.has_to_wait-waits.ensures p runs ∙ sym c.begins.ensures
