use Rattle.std.proofs.Common.{◌∙◌, Some, true, false, ap}
use Rattle.ut_scan.proofs.CountLemmas.{all-seen, none-here}
use Rattle.ut_scan.proofs.parts.PartProbe.count_all.Goals as goal

pub returns-then-seen : goal.returns-then-seen
returns-then-seen c =
    let p = c.args.self.now in
    all-seen p.snapshot.now p.number p.part.now.rows p.stamps.now p.stamped c.len.result (p.sight true (c.in-Some.is ∙ ap Some c.if-seen.true)) c.len.ensures.len

pub returns-else-seen : goal.returns-else-seen
returns-else-seen c =
    let p = c.args.self.now in
    none-here p.snapshot.now p.number p.part.now.rows p.stamps.now p.stamped (p.sight false (c.in-Some.is ∙ ap Some c.if-seen.false))
