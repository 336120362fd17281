use Rattle.std.proofs.Common.{◌≡◌, ◌∙◌, ◌++◌, ◌&&◌, List, ℕ, length, map, filter, sym, ap, arith}
use Rattle.std.specs.List.{range_with_len}
use Rattle.ut_stamps.specs.declared.place.Place.TheVariants.{Main}
use Rattle.ut_scan.specs.declared.place.Found.{Found}
use Rattle.ut_scan.specs.Finds.{found_at}
use Rattle.ut_scan.specs.Probes.{is_seen}
use Rattle.ut_scan.proofs.FindLemmas.{one-found, none-found, passed-over}
use Rattle.ut_scan.proofs.MainLemmas.{stands_seen, standing-seen}
use Rattle.ut_scan.proofs.parts.PartProbe.append_standing.Goals as goal
use Rattle.ut_scan.proofs.parts.PartProbe.append_standing.Goals.{then-sees+in_ok-push, else-sees}

pub loop-from-preserved : goal.loop-from-preserved
loop-from-preserved c =
    let p = c.args.self.now in
    let found = found_at (Main p.number) p.part.now.rows in
    let seen = is_seen p.snapshot.now p.stamps.now in
    let test = stands_seen p.snapshot.now p.stamps.now c.args.mask.now in
    let base = c.args.out.now.items in
    let out = c.loop-from.out.items in
    let i = c.in-Some.i in
    let next = c.in-Some.ensures.next in
    let so_far = passed-over found test c.loop-from.from i out base c.loop-from.invariant.found next.behind (λ j lo hi. ap (λ b. b && seen j) (next.first j lo hi)) in
    record {
      within = omega (arith, next.within);
      found = elim c.if-sees.branch [
        | then-sees+in_ok-push w ↦ ap (λ v. v.items) w.out-is ∙ w.in_ok-push.ensures.items ∙ one-found found test i out base so_far w.found.result w.found.ensures (λ k. next.stands k && (sym c.sees.ensures ∙ w.if-sees.true) k)
        | else-sees w ↦ ap (λ v. v.items) w.out-is ∙ none-found found test i out base so_far (ap (λ b. b && seen i) next.stands ∙ sym c.sees.ensures ∙ w.if-sees.false)
      ];
    }

pub returns-in_default : goal.returns-in_default
returns-in_default c =
    let p = c.args.self.now in
    let mask = c.args.mask.now in
    let base = c.args.out.now.items in
    let seen = is_seen p.snapshot.now p.stamps.now in
    let none = c.in_default.ensures.none in
    passed-over (found_at (Main p.number) p.part.now.rows) (stands_seen p.snapshot.now p.stamps.now mask) c.loop-from.from (length mask) c.loop-from.out.items base c.loop-from.invariant.found c.loop-from.invariant.within
    (λ j lo hi. ap (λ b. b && seen j) (none j lo hi))
    ∙ ap (λ (l : List Found). base ++ l) (sym (standing-seen p.snapshot.now p.number p.part.now.rows p.stamps.now mask c.requires))

pub returns : goal.returns
returns c =
    let p = c.args.self.now in
    let mask = c.args.mask.now in
    let base = c.args.out.now.items in
    let found = found_at (Main p.number) p.part.now.rows in
    let test = stands_seen p.snapshot.now p.stamps.now mask in
    let end : c.loop-from.from ≡ length mask = omega (arith, c.loop-from.invariant.within, c.loop-from-test.false, c.len.ensures.len) in
    c.loop-from.invariant.found
    ∙ ap (λ (n : ℕ). base ++ map found (filter test (range_with_len 0 n))) end
    ∙ ap (λ (l : List Found). base ++ l) (sym (standing-seen p.snapshot.now p.number p.part.now.rows p.stamps.now mask c.requires))
