use Rattle.std.proofs.Common.{◌≡◌, ◌∙◌, ◌<◌, ℕ, length, map, filter, get_or, sym, ap, subst, arith}
use Rattle.std.specs.List.{range_with_len}
use Rattle.ut_codes.specs.Reached.{Reached}
use Rattle.ut_scan.specs.Coded.{code_at}
use Rattle.ut_scan.specs.Probes.{is_seen}
use Rattle.ut_scan.specs.Tallies.{AreMore}
use Rattle.ut_scan.proofs.TallyLemmas.{has-count, has-room, more-none, none-tallied, one-tallied}
use Rattle.ut_scan.proofs.parts.PartProbe.tally_each.Goals as goal
use Rattle.ut_scan.proofs.parts.PartProbe.tally_each.Goals.{then-sees, else-sees}

pub loop-i-init : goal.loop-i-init
loop-i-init c = more-none c.args.counts.now

pub add_code-requires-clause-there : goal.add_code-requires-clause-there
add_code-requires-clause-there c =
    let part = c.args.self.now.part.now in
    let lt : c.loop-i.i < length c.args.self.now.part.now.rows = omega (arith, c.loop-i-test.true, c.len-i-end.ensures.len) in
    has-count part c.args.column c.loop-i.i c.get.result _ c.args.counts.now c.loop-i.counts c.requires.room c.loop-i.invariant lt (c.get.ensures ∙ ap (λ (v : Reached). get_or v.codes c.loop-i.i 0) c.codes-codes.ensures)

pub add_code-requires-clause-few : goal.add_code-requires-clause-few
add_code-requires-clause-few c =
    let p = c.args.self.now in
    let lt : c.loop-i.i < length c.args.self.now.part.now.rows = omega (arith, c.loop-i-test.true, c.len-i-end.ensures.len) in
    has-room p.part.now c.args.column c.loop-i.i c.get.result (is_seen p.snapshot.now p.stamps.now) c.args.counts.now c.loop-i.counts c.requires.room c.loop-i.invariant lt

pub loop-i-preserved : goal.loop-i-preserved
loop-i-preserved c =
    let p = c.args.self.now in
    let code = λ (j : ℕ). code_at p.part.now j c.args.column in
    let seen = is_seen p.snapshot.now p.stamps.now in
    let now = c.loop-i.counts in
    elim c.if-sees.branch [
      | then-sees w ↦ subst (AreMore _ c.args.counts.now) (sym w.counts-is)
          (one-tallied code seen c.loop-i.i c.args.counts.now now c.loop-i.invariant w.get.result w.add_code.new.counts (w.get.ensures ∙ ap (λ (v : Reached). get_or v.codes c.loop-i.i 0) c.codes-codes.ensures) (sym c.sees.ensures ∙ w.if-sees.true) w.add_code.ensures)
      | else-sees w ↦ subst (AreMore _ c.args.counts.now) (sym w.counts-is)
          (none-tallied code seen c.loop-i.i c.args.counts.now now c.loop-i.invariant (sym c.sees.ensures ∙ w.if-sees.false))
    ]

pub returns : goal.returns
returns c =
    let p = c.args.self.now in
    let end : c.loop-i.i ≡ length c.args.self.now.part.now.rows = omega (arith, c.loop-i-test.false, c.loop-i.auto, c.len-i-end.ensures.len) in
    subst (λ n. AreMore (map (λ j. code_at p.part.now j c.args.column) (filter (is_seen p.snapshot.now p.stamps.now) (range_with_len 0 n))) c.args.counts.now c.loop-i.counts) end c.loop-i.invariant
