use Rattle.std.proofs.Common.{◌≡◌, ◌<◌, ◌+◌, ◌++◌, ◌∷◌, [], ℕ, List, Vec, Global, length, map, drop, sym, ◌∙◌, ap, subst, arith}
use Rattle.std.specs.List.{items_where_true}
use Rattle.ut_l2.specs.KeyRows.{KeyRow}
use Rattle.ut_reading.proofs.FindLemmas.{live_taken, live_passed}
use Rattle.ut_reading.proofs.parts.add_live.Goals as goal
use Rattle.ut_reading.proofs.parts.add_live.Goals.{then-marks-i+in_ok-push, else-marks-i}

pub loop-i-preserved : goal.loop-i-preserved
loop-i-preserved c =
    let marks = c.args.marks.now in
    let rows : List KeyRow = c.args.part.now.rows in
    let i : ℕ = c.loop-i.i in
    let old : List ℕ = c.args.live.now.items ++ map (λ (r : KeyRow). r.id) (items_where_true marks rows) in
    let lt : i < length rows = omega arith in
    let taken = live_taken old c.loop-i.live.items marks rows i lt c.requires c.loop-i.invariant in
    let passed = live_passed old c.loop-i.live.items marks rows i lt c.requires c.loop-i.invariant in
    elim c.if-marks-i.branch [
      | then-marks-i+in_ok-push w ↦
          let here : c.if-marks-i.live.items ≡ c.loop-i.live.items ++ w.row_id.result ∷ [] = ap (λ (v : Vec ℕ Global). v.items) w.live-is ∙ w.in_ok-push.ensures.items in
          subst (λ (l : List ℕ). l ++ map (λ (r : KeyRow). r.id) (items_where_true (drop (i + 1) marks) (drop (i + 1) rows)) ≡ old) (sym here) (taken w.row_id.result w.if-marks-i.true w.row_id.ensures)
      | else-marks-i w ↦
          let here : c.if-marks-i.live.items ≡ c.loop-i.live.items = ap (λ (v : Vec ℕ Global). v.items) w.live-is in
          subst (λ (l : List ℕ). l ++ map (λ (r : KeyRow). r.id) (items_where_true (drop (i + 1) marks) (drop (i + 1) rows)) ≡ old) (sym here) (passed w.if-marks-i.false)
    ]
