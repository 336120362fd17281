use Rattle.std.proofs.Common.{◌≡◌, ◌∙◌, ◌<◌, ◌&&◌, ℕ, length, map, filter, get_or, sym, ap, subst, arith}
use Rattle.std.specs.List.{range_with_len}
use Rattle.ut_codes.specs.Reached.{Reached}
use Rattle.ut_scan.specs.Coded.{code_at}
use Rattle.ut_scan.specs.Probes.{is_seen}
use Rattle.ut_scan.specs.Tallies.{AreMore}
use Rattle.ut_scan.proofs.MainLemmas.{stands_seen}
use Rattle.ut_scan.proofs.TallyLemmas.{has-count, has-room, more-none, none-tallied, one-tallied, standing-codes, tallied-over}
use Rattle.ut_scan.proofs.parts.PartProbe.tally_standing.Goals as goal
use Rattle.ut_scan.proofs.parts.PartProbe.tally_standing.Goals.{then-sees, else-sees}

pub loop-from-init : goal.loop-from-init
loop-from-init c = record { within = omega arith; counted = more-none c.args.counts.now }

pub add_code-requires-clause-there : goal.add_code-requires-clause-there
add_code-requires-clause-there c =
    let part = c.args.self.now.part.now in
    let lt : c.in-Some.i < length c.args.self.now.part.now.rows = omega (arith, c.in-Some.ensures.next.within, c.requires.mask) in
    has-count part c.args.column c.in-Some.i c.get.result _ c.args.counts.now c.loop-from.counts c.requires.room c.loop-from.invariant.counted lt (c.get.ensures ∙ ap (λ (v : Reached). get_or v.codes c.in-Some.i 0) c.codes-codes.ensures)

pub add_code-requires-clause-few : goal.add_code-requires-clause-few
add_code-requires-clause-few c =
    let p = c.args.self.now in
    let next = c.in-Some.ensures.next in
    let seen = is_seen p.snapshot.now p.stamps.now in
    let code = λ (j : ℕ). code_at p.part.now j c.args.column in
    let test = stands_seen p.snapshot.now p.stamps.now c.args.mask.now in
    let lt : c.in-Some.i < length c.args.self.now.part.now.rows = omega (arith, c.in-Some.ensures.next.within, c.requires.mask) in
    let so_far = tallied-over code test c.loop-from.from c.in-Some.i c.args.counts.now c.loop-from.counts c.loop-from.invariant.counted next.behind (λ j lo hi. ap (λ b. b && seen j) (next.first j lo hi)) in
    has-room p.part.now c.args.column c.in-Some.i c.get.result test c.args.counts.now c.loop-from.counts c.requires.room so_far lt

pub loop-from-preserved : goal.loop-from-preserved
loop-from-preserved c =
    let p = c.args.self.now in
    let code = λ (j : ℕ). code_at p.part.now j c.args.column in
    let seen = is_seen p.snapshot.now p.stamps.now in
    let test = stands_seen p.snapshot.now p.stamps.now c.args.mask.now in
    let now = c.loop-from.counts in
    let i = c.in-Some.i in
    let next = c.in-Some.ensures.next in
    let so_far = tallied-over code test c.loop-from.from i c.args.counts.now now c.loop-from.invariant.counted next.behind (λ j lo hi. ap (λ b. b && seen j) (next.first j lo hi)) in
    record {
      within = omega (arith, next.within);
      counted = elim c.if-sees.branch [
        | then-sees w ↦ subst (AreMore _ c.args.counts.now) (sym w.counts-is)
            (one-tallied code test i c.args.counts.now now so_far w.get.result w.add_code.new.counts (w.get.ensures ∙ ap (λ (v : Reached). get_or v.codes i 0) c.codes-codes.ensures) (λ k. next.stands k && (sym c.sees.ensures ∙ w.if-sees.true) k) w.add_code.ensures)
        | else-sees w ↦ subst (AreMore _ c.args.counts.now) (sym w.counts-is)
            (none-tallied code test i c.args.counts.now now so_far (ap (λ b. b && seen i) next.stands ∙ sym c.sees.ensures ∙ w.if-sees.false))
      ];
    }

pub returns-in_default : goal.returns-in_default
returns-in_default c =
    let p = c.args.self.now in
    let mask = c.args.mask.now in
    let code = λ (j : ℕ). code_at p.part.now j c.args.column in
    let seen = is_seen p.snapshot.now p.stamps.now in
    let none = c.in_default.ensures.none in
    subst (λ l. AreMore l c.args.counts.now c.loop-from.counts) (standing-codes p.snapshot.now p.part.now c.args.column p.stamps.now mask)
    (tallied-over code (stands_seen p.snapshot.now p.stamps.now mask) c.loop-from.from (length mask) c.args.counts.now c.loop-from.counts c.loop-from.invariant.counted c.loop-from.invariant.within (λ j lo hi. ap (λ b. b && seen j) (none j lo hi)))

pub returns : goal.returns
returns c =
    let p = c.args.self.now in
    let mask = c.args.mask.now in
    let code = λ (j : ℕ). code_at p.part.now j c.args.column in
    let end : c.loop-from.from ≡ length mask = omega (arith, c.loop-from.invariant.within, c.loop-from-test.false, c.len.ensures.len) in
    subst (λ l. AreMore l c.args.counts.now c.loop-from.counts) (standing-codes p.snapshot.now p.part.now c.args.column p.stamps.now mask)
    (subst (λ n. AreMore (map code (filter (stands_seen p.snapshot.now p.stamps.now mask) (range_with_len 0 n))) c.args.counts.now c.loop-from.counts) end c.loop-from.invariant.counted)
