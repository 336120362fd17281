use Rattle.std.proofs.Common.{length, refl}
use Rattle.ut_outside.specs.Disk.{View, TornWrite, content, overlaid}
use Rattle.ut_outside.specs.HistoryLaws.{torn_same}
use Rattle.ut_outside.proofs.ChainLemmas.{settles}
use Rattle.ut_outside.proofs.through.write_through.Goals as goal

pub returns : goal.returns
returns g c =
    let v0 : View = g.D.Disk.view c.args.disk.now in
    let partly = TornWrite (length (content c.args.file v0.seen)) c.args.at (length c.args.bytes.now) in
    settles c.args.file partly (overlaid c.args.at c.args.bytes.now) (λ s. torn_same _ _ s) v0 _ (g.met.D.Disk.only_now c.args.disk.now) _ c.in_ok-write_at.ensures refl c.in_ok-write_at.ensures.done _ _ c.sync.ensures
