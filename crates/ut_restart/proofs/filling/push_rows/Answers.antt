use Rattle.std.proofs.Common.{◌≡◌, ◌∷◌, ◌++◌, length, length-append, IsTrue, sym, ◌∙◌, ap, subst, arith}
use Rattle.std.specs.List.{AllByRecursion}
use Rattle.std.specs.Vec.Iter.{into_iter_items}
use Rattle.ut_value.specs.declared.value.Row.{Row}
use Rattle.ut_plain.specs.Tables.{fits_columns}
use Rattle.ut_staged.specs.Staged.{Staged, count_of, entered_l1}
use Rattle.ut_restart.specs.Standing.{live_row}
use Rattle.ut_restart.proofs.JournalLemmas.{within}
use Rattle.ut_restart.proofs.TakenLemmas.{taken_front}
use Rattle.ut_restart.proofs.FillLemmas.{pushed-more, pushed-count}
use Rattle.ut_restart.proofs.filling.push_rows.Goals as goal

pub push-requires-clause-fits : goal.push-requires-clause-fits
push-requires-clause-fits c =
    let rest = into_iter_items c.next.new.self in
    let front = taken_front c.into_iter-row-iterator.result c.loop-row.yielded c.loop-row.row-iterator c.loop-row.yielded_by in
    let all : c.args.rows ≡ c.loop-row.yielded ++ (c.in-Some.row ∷ rest) = sym (ap (λ xs. c.loop-row.yielded ++ xs) (sym c.in-Some.ensures.steps.0) ∙ sym front ∙ c.into_iter-row-iterator.ensures.into_iter_gives.0 ∙ c.into_vec-row-items.ensures) in
    let fits = within (λ (r : Row). IsTrue (fits_columns c.args.stages.now.stages.columns r.values)) c.loop-row.yielded c.in-Some.row rest (subst (AllByRecursion (λ (r : Row). IsTrue (fits_columns c.args.stages.now.stages.columns r.values))) all c.requires.fit) in
    subst (λ (s : Staged). IsTrue (fits_columns s.columns c.in-Some.row.values)) (sym (c.room.ensures.stages ∙ c.loop-row.invariant)) fits

pub push-requires-clause-few : goal.push-requires-clause-few
push-requires-clause-few c =
    let rest = into_iter_items c.next.new.self in
    let front = taken_front c.into_iter-row-iterator.result c.loop-row.yielded c.loop-row.row-iterator c.loop-row.yielded_by in
    let all : c.args.rows ≡ c.loop-row.yielded ++ (c.in-Some.row ∷ rest) = sym (ap (λ xs. c.loop-row.yielded ++ xs) (sym c.in-Some.ensures.steps.0) ∙ sym front ∙ c.into_iter-row-iterator.ensures.into_iter_gives.0 ∙ c.into_vec-row-items.ensures) in
    omega (arith, c.requires.few, ap length all, length-append c.loop-row.yielded (c.in-Some.row ∷ rest), ap count_of (c.room.ensures.stages ∙ c.loop-row.invariant), pushed-count c.args.stages.now.stages c.loop-row.yielded)

pub loop-row-preserved : goal.loop-row-preserved
loop-row-preserved c =
    c.push.ensures.stages ∙ ap (entered_l1 (live_row c.in-Some.row)) (c.room.ensures.stages ∙ c.loop-row.invariant) ∙ pushed-more c.args.stages.now.stages c.loop-row.yielded c.in-Some.row
