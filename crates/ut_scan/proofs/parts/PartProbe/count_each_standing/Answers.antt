use Rattle.std.proofs.Common.{◌≡◌, ◌∙◌, ◌&&◌, ℕ, length, filter, sym, ap, arith}
use Rattle.std.specs.List.{range_with_len}
use Rattle.ut_scan.specs.Probes.{is_seen}
use Rattle.ut_scan.proofs.CountLemmas.{one-counted, none-counted, none-more, standing-counted}
use Rattle.ut_scan.proofs.MainLemmas.{stands_seen}
use Rattle.ut_scan.proofs.parts.PartProbe.count_each_standing.Goals as goal
use Rattle.ut_scan.proofs.parts.PartProbe.count_each_standing.Goals.{then-sees, else-sees}

pub loop-from-preserved : goal.loop-from-preserved
loop-from-preserved c =
    let p = c.args.self.now in
    let seen = is_seen p.snapshot.now p.stamps.now in
    let test = stands_seen p.snapshot.now p.stamps.now c.args.mask.now in
    let i = c.in-Some.i in
    let next = c.in-Some.ensures.next in
    let few = c.loop-from.invariant.few in
    let so_far = none-more test c.loop-from.from i c.loop-from.count c.loop-from.invariant.counted next.behind (λ j lo hi. ap (λ b. b && seen j) (next.first j lo hi)) in
    elim c.if-sees.branch [
      | then-sees w ↦ record {
        within = omega (arith, next.within);
        counted = w.count-is ∙ one-counted test i c.loop-from.count so_far (λ k. next.stands k && (sym c.sees.ensures ∙ w.if-sees.true) k);
        few = omega (arith, w.count-is, few, next.behind);
      }
      | else-sees w ↦ record {
        within = omega (arith, next.within);
        counted = w.count-is ∙ none-counted test i c.loop-from.count so_far (ap (λ b. b && seen i) next.stands ∙ sym c.sees.ensures ∙ w.if-sees.false);
        few = omega (arith, w.count-is, few, next.behind);
      }
    ]

pub returns-in_default : goal.returns-in_default
returns-in_default c =
    let p = c.args.self.now in
    let mask = c.args.mask.now in
    let seen = is_seen p.snapshot.now p.stamps.now in
    let none = c.in_default.ensures.none in
    none-more (stands_seen p.snapshot.now p.stamps.now mask) c.loop-from.from (length mask) c.loop-from.count c.loop-from.invariant.counted c.loop-from.invariant.within (λ j lo hi. ap (λ b. b && seen j) (none j lo hi))
    ∙ standing-counted p.snapshot.now p.number p.part.now.rows p.stamps.now mask c.requires

pub returns : goal.returns
returns c =
    let p = c.args.self.now in
    let mask = c.args.mask.now in
    let test = stands_seen p.snapshot.now p.stamps.now mask in
    let end : c.loop-from.from ≡ length mask = omega (arith, c.loop-from.invariant.within, c.loop-from-test.false, c.len.ensures.len) in
    c.loop-from.invariant.counted
    ∙ ap (λ (n : ℕ). length (filter test (range_with_len 0 n))) end
    ∙ standing-counted p.snapshot.now p.number p.part.now.rows p.stamps.now mask c.requires
