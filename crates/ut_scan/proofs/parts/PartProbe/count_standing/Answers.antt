use Rattle.std.proofs.Common.{◌∙◌, Some, true, false, ap}
use Rattle.ut_scan.proofs.CountLemmas.{all-standing, none-standing}
use Rattle.ut_scan.proofs.parts.PartProbe.count_standing.Goals as goal

pub returns-then-seen : goal.returns-then-seen
returns-then-seen c =
    let p = c.args.self.now in
    all-standing p.snapshot.now p.number p.part.now.rows p.stamps.now p.stamped c.args.mask.now c.count.result c.requires (p.sight true (c.in-Some.is ∙ ap Some c.if-seen.true)) c.count.ensures

pub returns-else-seen : goal.returns-else-seen
returns-else-seen c =
    let p = c.args.self.now in
    none-standing p.snapshot.now p.number p.part.now.rows p.stamps.now p.stamped c.args.mask.now c.requires (p.sight false (c.in-Some.is ∙ ap Some c.if-seen.false))
