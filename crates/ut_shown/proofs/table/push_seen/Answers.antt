use Rattle.std.proofs.Common.{◌+◌, ◌<◌, List, length, take, IsTrue, refl, sym, ◌∙◌, ap, subst, arith}
use Rattle.std.specs.Prelude.{IsSome}
use Rattle.std.proofs.lemmas.List.{length-map, length-take}
use Rattle.ut_value.specs.declared.value.Column.{Column}
use Rattle.ut_value.specs.declared.value.Row.{Row}
use Rattle.ut_plain.specs.Tables.{fits_columns}
use Rattle.ut_staged.specs.Staged.{Staged, row_at, count_of, entered_l1, stamped_row}
use Rattle.ut_shown.specs.Shown.{eyes}
use Rattle.ut_table.specs.Outside.{rows_in}
use Rattle.ut_table.proofs.StageLemmas.{stamp_of}
use Rattle.ut_shown.proofs.PushLemmas.{is_there, push-more, passed-over}
use Rattle.ut_shown.proofs.FilledLemmas.{pushed-count}
use Rattle.ut_shown.proofs.table.push_seen.Goals as goal
use Rattle.ut_shown.proofs.table.push_seen.Goals.{then-sees+in_ok-row+in_ok-room, else-sees}

pub row-requires : goal.row-requires
row-requires c =
    subst (λ p. IsSome (row_at c.args.table.now.stages p)) (sym c.place.ensures)
    (subst IsSome (sym (is_there (eyes c.args.snapshot.fates.now c.args.snapshot.at c.args.snapshot.own) c.args.stage c.args.table.now.stages c.stamps_in-stamps.result.now c.loop-i.i c.stamps_in-stamps.ensures.stamps c.loop-i-test.true)) refl)

pub push-requires-clause-fits : goal.push-requires-clause-fits
push-requires-clause-fits c =
    let there = is_there (eyes c.args.snapshot.fates.now c.args.snapshot.at c.args.snapshot.own) c.args.stage c.args.table.now.stages c.stamps_in-stamps.result.now c.loop-i.i c.stamps_in-stamps.ensures.stamps c.loop-i-test.true in
    let at = ap (row_at c.args.table.now.stages) c.place.ensures ∙ there in
    let fits = c.in_ok-row.ensures.fits _ at in
    let copy = c.in_ok-row.ensures.copy _ at in
    let columns = ap (λ (s : Staged). s.columns) (c.room.ensures.stages ∙ c.loop-i.invariant) ∙ c.requires.columns in
    subst (λ (cs : List Column). IsTrue (fits_columns cs c.in_ok-row.row.values)) (sym columns) (subst (λ (r : Row). IsTrue (fits_columns c.args.table.now.stages.columns r.values)) (sym copy) fits)

pub push-requires-clause-few : goal.push-requires-clause-few
push-requires-clause-few c =
    let rows = rows_in c.args.stage c.args.table.now.stages in
    let inside : c.loop-i.i < length rows = omega (arith, c.loop-i-test.true, ap length c.stamps_in-stamps.ensures.stamps, length-map rows stamp_of) in
    omega (arith, c.requires.few, inside, ap count_of (c.room.ensures.stages ∙ c.loop-i.invariant), pushed-count (eyes c.args.snapshot.fates.now c.args.snapshot.at c.args.snapshot.own) (take c.loop-i.i rows) c.args.out.now.stages, length-take c.loop-i.i rows)

pub loop-i-preserved : goal.loop-i-preserved
loop-i-preserved c = elim c.if-sees.branch [
  | then-sees+in_ok-row+in_ok-room w ↦
      push-more (eyes c.args.snapshot.fates.now c.args.snapshot.at c.args.snapshot.own) c.args.stage c.args.table.now.stages c.stamps_in-stamps.result.now c.loop-i.i c.stamps_in-stamps.ensures.stamps c.loop-i-test.true
      _ w.in_ok-row.row _ c.args.out.now.stages c.loop-i.out.stages c.if-sees.out.stages (sym c.sees.ensures ∙ w.if-sees.true)
      (λ r at. w.in_ok-row.ensures.copy r (ap (row_at c.args.table.now.stages) w.place.ensures ∙ at)) w.stamp_of.ensures c.loop-i.invariant
      (ap (λ v. v.stages) w.out-is ∙ w.push.ensures.stages ∙ ap (entered_l1 (stamped_row w.stamp_of.result w.in_ok-row.row)) w.room.ensures.stages)
  | else-sees w ↦
      passed-over (eyes c.args.snapshot.fates.now c.args.snapshot.at c.args.snapshot.own) c.args.stage c.args.table.now.stages c.stamps_in-stamps.result.now c.loop-i.i c.stamps_in-stamps.ensures.stamps c.loop-i-test.true
      _ c.args.out.now.stages c.loop-i.out.stages c.if-sees.out.stages (sym c.sees.ensures ∙ w.if-sees.false) c.loop-i.invariant (ap (λ v. v.stages) w.out-is)
]
