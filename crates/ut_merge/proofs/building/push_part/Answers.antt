use Rattle.std.proofs.Common.{◌≡◌, ◌∙◌, List, length, ap, arith}
use Rattle.std.specs.Arc.{arc_value}
use Rattle.std.proofs.lemmas.List.{length-take-le}
use Rattle.ut_l2.specs.KeyRows.{KeyRow}
use Rattle.ut_main.specs.Parts.{PartValue, MainValue, dicts_behind}
use Rattle.ut_merge.specs.Jobs.{new_rows, stay_of}
use Rattle.ut_merge.proofs.BuildLemmas.{main-built, new-few, new-low, part-before, part-is, part-rows}
use Rattle.ut_merge.proofs.KeptLemmas.{staying-le, staying-low}
use Rattle.ut_merge.proofs.building.push_part.Goals as goal
use Rattle.ut_merge.proofs.building.push_part.Goals.{In_ok-new}

-- the dictionaries behind which the new part stands
before : (c : In_ok-new) → (arc_value c.in_ok-new.field-0).before ≡ dicts_behind c.args.main.now
before c =
    let h = c.requires.rows in
    ap (λ (p : PartValue). p.before) (c.in_ok-new.ensures.ok ∙ c.of-part.ensures) ∙ part-before c.args.job.now (new_rows c.args.job.now) c.args.main.now c.args.rows.ids.items c.in_ok-columns.columns.items c.requires.staying h.wide h.ids_are c.in_ok-columns.ensures

-- its rows
rows : (c : In_ok-new) → (arc_value c.in_ok-new.field-0).rows ≡ new_rows c.args.job.now
rows c =
    let h = c.requires.rows in
    ap (λ (p : PartValue). p.rows) (c.in_ok-new.ensures.ok ∙ c.of-part.ensures) ∙ part-rows c.args.job.now (new_rows c.args.job.now) c.args.main.now c.args.rows.ids.items c.in_ok-columns.columns.items c.requires.staying h.wide h.ids_are c.in_ok-columns.ensures

pub of-part-requires : goal.of-part-requires
of-part-requires c =
    let job = c.args.job.now in
    let h = c.requires.rows in
    part-is job (new_rows job) c.args.main.now c.args.rows.ids.items c.in_ok-columns.columns.items c.requires.staying h.wide h.ids_are c.in_ok-columns.ensures (new-low job c.args.rows c.requires.job h)

pub push-requires-clause-fewer : goal.push-requires-clause-fewer
push-requires-clause-fewer c =
    let job = c.args.job.now in
    omega (arith, staying-low job.head.kind (length job.parts) c.requires.few c.requires.job.room, length-take-le (stay_of job) job.parts (staying-le job.head.kind (length job.parts)), ap (λ (m : MainValue). length m.parts) c.requires.staying)

pub push-requires-clause-behind : goal.push-requires-clause-behind
push-requires-clause-behind c = before (goal.at.push-requires-clause-behind c).In_ok-new

pub push-requires-clause-few : goal.push-requires-clause-few
push-requires-clause-few c =
    let job = c.args.job.now in
    let made = rows (goal.at.push-requires-clause-few c).In_ok-new in
    omega (arith, new-few job c.args.rows c.args.main.now c.requires.job (staying-le job.head.kind (length job.parts)) c.requires.staying c.requires.rows, ap (λ (l : List KeyRow). length l) made)

pub returns : goal.returns
returns c =
    let job = c.args.job.now in
    let h = c.requires.rows in
    record {
      main_is = main-built job c.args.main.now c.push.new.self (arc_value c.in_ok-new.field-0).rows c.requires.staying (rows (goal.at.returns c).In_ok-new) c.in_ok-push.ensures.ok;
      places = h.places;
      rows = h.rows_are;
      in_place = h.in_place;
    }
