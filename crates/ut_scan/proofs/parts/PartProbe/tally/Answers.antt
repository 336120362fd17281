use Rattle.std.proofs.Common.{◌∙◌, List, ℕ, Bool, OnOk, length, sym, ap, refl, subst}
use Rattle.std.proofs.lemmas.Bool.{eqb-true}
use Rattle.std.proofs.lemmas.List.{nil_from_length}
use Rattle.ut_scan.specs.Tallies.{seen_codes, AreMore}
use Rattle.ut_scan.proofs.MainLemmas.{held-none, held-out, length-held, standing-held}
use Rattle.ut_scan.proofs.TallyLemmas.{more-none, none-held}
use Rattle.ut_scan.proofs.parts.PartProbe.tally.Goals as goal

pub returns-then-is_hidden : goal.returns-then-is_hidden
returns-then-is_hidden c =
    let p = c.args.self.now in
    subst (λ l. AreMore l c.args.counts.now c.args.counts.now) (none-held p.snapshot.now p.part.now c.args.column p.coded.now p.stamps.now p.stamped (c.if-is_hidden.ensures refl))
    (more-none c.args.counts.now)

pub returns-then-is_empty : goal.returns-then-is_empty
returns-then-is_empty c =
    let p = c.args.self.now in
    let none = nil_from_length p.coded.now (eqb-true (length p.coded.now) 0 (sym c.is_empty.ensures ∙ c.if-is_empty.true)) in
    subst (λ places. OnOk c.tally_all.result (AreMore (seen_codes p.snapshot.now p.part.now c.args.column p.stamps.now places) c.args.counts.now c.tally_all.new.counts)) (sym (held-none p.part.now p.coded.now none)) c.tally_all.ensures

pub returns-then-is_out : goal.returns-then-is_out
returns-then-is_out c =
    let p = c.args.self.now in
    subst (λ places. AreMore (seen_codes p.snapshot.now p.part.now c.args.column p.stamps.now places) c.args.counts.now c.args.counts.now) (held-out p.part.now p.coded.now (c.if-is_out.ensures refl)) (more-none c.args.counts.now)

pub tally_standing-requires-clause-mask : goal.tally_standing-requires-clause-mask
tally_standing-requires-clause-mask c = ap (λ (m : List Bool). length m) c.in_ok-mask.ensures ∙ length-held c.args.self.now.coded.now c.args.self.now.part.now

pub returns : goal.returns
returns c =
    let p = c.args.self.now in
    subst (λ (places : List ℕ). AreMore (seen_codes p.snapshot.now p.part.now c.args.column p.stamps.now places) c.args.counts.now c.tally_standing.new.counts) (standing-held p.coded.now p.part.now c.in_ok-mask.mask c.in_ok-mask.ensures)
    c.tally_standing.ensures
