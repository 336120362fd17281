use Rattle.std.proofs.Common.{◌≡◌, ◌+◌, ◌∷◌, ◌∙◌, drop, sym, ap, subst}
use Rattle.std.proofs.lemmas.List.{drop_more, drop_all}
use Rattle.std.specs.List.{flat_map}
use Rattle.ut_value.specs.Reading.{Begins}
use Rattle.ut_value.specs.declared.value.Column.{Column}
use Rattle.ut_image.specs.Bytes.{cell_bytes}
use Rattle.ut_image.specs.Rules.{are_cells}
use Rattle.ut_image.proofs.NoneLemmas.{AreRead, all_read, one_read, stuck_cell}
use Rattle.ut_image.proofs.fields.read_cells.Goals as goal

pub returns-in_default-clause-none : goal.returns-in_default-clause-none
returns-in_default-clause-none c =
    let columns = c.args.columns.now in
    let column : Column = c.column-item.result in
    let i = c.loop-column.column-index in
    let left : drop i columns ≡ column ∷ drop (i + 1) columns = drop_more columns i column c.loop-column-test.true ∙ ap (λ (x : Column). x ∷ drop (i + 1) columns) (sym c.column-item.is) in
    stuck_cell columns (drop i columns) c.args.bytes.now c.loop-column.values.items c.loop-column.rest.now column (drop (i + 1) columns) c.loop-column.invariant left (rw c.in_default.is at c.in_ok-value.ensures.none)

pub loop-column-preserved : goal.loop-column-preserved
loop-column-preserved c =
    let columns = c.args.columns.now in
    let column : Column = c.column-item.result in
    let i = c.loop-column.column-index in
    let items = c.loop-column.values.items in
    let left : drop i columns ≡ column ∷ drop (i + 1) columns = drop_more columns i column c.loop-column-test.true ∙ ap (λ (x : Column). x ∷ drop (i + 1) columns) (sym c.column-item.is) in
    let more = one_read columns (drop i columns) c.args.bytes.now items c.loop-column.rest.now column (drop (i + 1) columns) c.in-Some.value c.in-Some.behind.now c.loop-column.invariant left (rw c.in-Some.is at c.in_ok-value.ensures.found) in
    subst (λ values. AreRead columns (drop (i + 1) columns) c.args.bytes.now values c.in-Some.behind.now) (sym c.in_ok-push.ensures.items) more

pub returns-clause-found : goal.returns-clause-found
returns-clause-found c =
    let columns = c.args.columns.now in
    let bytes = c.args.bytes.now in
    let items = c.loop-column.values.items in
    let rest = c.loop-column.rest.now in
    let ended = subst (λ left. AreRead columns left bytes items rest) (drop_all c.loop-column.column-index columns c.loop-column-test.false) c.loop-column.invariant in
    subst (λ values. Begins (flat_map cell_bytes) (are_cells columns) bytes values rest) (sym c.from_vec.ensures) (all_read columns bytes items rest ended)
