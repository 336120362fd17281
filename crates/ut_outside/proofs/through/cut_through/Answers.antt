use Rattle.std.proofs.Common.{length, refl}
use Rattle.ut_outside.specs.Disk.{View, TornCut, content, padded}
use Rattle.ut_outside.specs.HistoryLaws.{cut_same}
use Rattle.ut_outside.proofs.ChainLemmas.{settles}
use Rattle.ut_outside.proofs.through.cut_through.Goals as goal

pub returns : goal.returns
returns g c =
    let v0 : View = g.D.Disk.view c.args.disk.now in
    let partly = TornCut (length (content c.args.file v0.seen)) c.args.len in
    settles c.args.file partly (padded c.args.len) (cut_same (length (content c.args.file v0.seen)) c.args.len) v0 _ (g.met.D.Disk.only_now c.args.disk.now) _ c.in_ok-cut.ensures refl c.in_ok-cut.ensures.done _ _ c.sync.ensures
