use Rattle.std.proofs.Common.{◌∙◌, Some, true, false, ap, subst}
use Rattle.ut_codes.specs.Reached.{Reached}
use Rattle.ut_scan.specs.Tallies.{AreMore}
use Rattle.ut_scan.proofs.TallyLemmas.{all-below, all-codes, all-few, more-none, none-coded}
use Rattle.ut_scan.proofs.parts.PartProbe.tally_all.Goals as goal

pub add_all-requires-clause-there : goal.add_all-requires-clause-there
add_all-requires-clause-there c = all-below c.args.self.now.part.now c.args.column c.args.counts.now c.codes.result.now.codes (ap (λ (v : Reached). v.codes) c.codes.ensures) c.requires.room

pub add_all-requires-clause-few : goal.add_all-requires-clause-few
add_all-requires-clause-few c = all-few c.args.self.now.part.now c.args.column c.args.counts.now c.codes.result.now.codes (ap (λ (v : Reached). v.codes) c.codes.ensures) c.requires.room

pub returns-in_ok-add_all-in-Some : goal.returns-in_ok-add_all-in-Some
returns-in_ok-add_all-in-Some c =
    let p = c.args.self.now in
    subst (λ l. AreMore l c.args.counts.now c.add_all.new.counts)
    (all-codes p.part.now c.args.column c.args.counts.now c.codes.result.now.codes (ap (λ (v : Reached). v.codes) c.codes.ensures) c.requires.room p.snapshot.now p.stamps.now p.stamped (p.sight true (c.in-Some.is ∙ ap Some c.if-seen.true)))
    c.in_ok-add_all-in-Some.ensures

pub returns-else-seen : goal.returns-else-seen
returns-else-seen c =
    let p = c.args.self.now in
    subst (λ l. AreMore l c.args.counts.now c.args.counts.now) (none-coded p.snapshot.now p.part.now c.args.column p.stamps.now p.stamped (p.sight false (c.in-Some.is ∙ ap Some c.if-seen.false))) (more-none c.args.counts.now)
