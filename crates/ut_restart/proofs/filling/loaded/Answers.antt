use Rattle.std.proofs.Common.{◌≡◌, ◌∙◌, length, map, All, IsTrue, sym, ap, subst, arith}
use Rattle.ut_value.specs.declared.value.Row.{Row}
use Rattle.ut_plain.specs.Tables.{fits_columns}
use Rattle.ut_staged.specs.Staged.{Staged, begun_row, count_of, entered_l2, no_rows}
use Rattle.ut_restart.proofs.filling.loaded.Goals as goal
use Rattle.ut_restart.proofs.filling.loaded.Goals.{In_ok-stages}

pub new-requires : goal.new-requires
new-requires c = omega (arith, c.requires.narrow, ap length c.in_ok-columns.ensures)

-- no rows yet
made : (c : In_ok-stages) → c.in_ok-stages.stages.stages ≡ no_rows c.args.drawn.now.table.columns
made c = c.in_ok-stages.ensures ∙ ap no_rows c.in_ok-columns.ensures

pub load-requires-clause-fit : goal.load-requires-clause-fit
load-requires-clause-fit c =
    let none = made (goal.at.load-requires-clause-fit c).In_ok-stages in
    subst (All (λ (r : Row). IsTrue (fits_columns c.in_ok-stages.stages.stages.columns r.values))) (sym c.as_slice.ensures)
    (subst (λ (x : Staged). All (λ (r : Row). IsTrue (fits_columns x.columns r.values)) c.args.drawn.now.l2) (sym none) c.requires.fit)

pub load-requires-clause-few : goal.load-requires-clause-few
load-requires-clause-few c =
    let none = made (goal.at.load-requires-clause-few c).In_ok-stages in
    omega (arith, c.requires.few, ap count_of none, ap length c.as_slice.ensures)

pub returns : goal.returns
returns c =
    let none = made (goal.at.returns c).In_ok-stages in
    c.in_ok-load.ensures.ok ∙ (λ i. entered_l2 (map (begun_row 0) (c.as_slice.ensures i)) (none i))
