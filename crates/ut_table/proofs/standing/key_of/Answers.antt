use Rattle.std.proofs.Common.{◌∙◌, length, List, get_or, ap, sym, subst, arith}
use Rattle.std.specs.Prelude.{slice_get}
use Rattle.std.proofs.lemmas.Option.{get_or_from_slice_get}
use Rattle.ut_value.specs.declared.value.Value.{Value}
use Rattle.ut_value.specs.KeyBytes.{key_of}
use Rattle.ut_l2.specs.KeyRows.{no_row}
use Rattle.ut_table.specs.Kept.{IsRow, HoldsRow}
use Rattle.ut_table.specs.Standing.{values_held, Stands}
use Rattle.ut_table.proofs.DecodedLemmas.{fits-length, held-key}
use Rattle.ut_table.proofs.standing.key_of.Goals as goal

pub bounds-as_slice-column : goal.bounds-as_slice-column
bounds-as_slice-column c =
    let stands : IsRow c.args.columns.now c.in-Row.row.now = subst (Stands c.args.columns.now) c.in-Row.is c.requires.stands in
    omega (arith, fits-length c.args.columns.now c.in-Row.row.now.values stands.fits, ap (λ (vs : List Value). length vs) c.as_slice.ensures, c.requires.column)

pub returns-in-Row : goal.returns-in-Row
returns-in-Row c = λ value e.
    let values = c.as_slice.ensures ∙ sym (ap (values_held c.args.columns.now) c.in-Row.is) in
    c.value_key.ensures ∙ ap key_of (c.index-as_slice-column.is ∙ get_or_from_slice_get c.as_slice.result.now c.args.column value c.index-as_slice-column.result (ap (λ vs. slice_get vs c.args.column) values ∙ e))

pub returns-in-Delta : goal.returns-in-Delta
returns-in-Delta c = λ value e.
    let stands : HoldsRow c.args.columns.now c.in-Delta.l2.now.width c.in-Delta.l2.now.rows c.in-Delta.i = subst (Stands c.args.columns.now) c.in-Delta.is c.requires.stands in
    c.delta_key.ensures ∙ held-key c.args.columns.now (get_or c.in-Delta.l2.now.rows c.in-Delta.i no_row) c.args.column value stands.held (ap (λ vs. slice_get vs c.args.column) (sym (ap (values_held c.args.columns.now) c.in-Delta.is)) ∙ e)

pub returns-in-Part : goal.returns-in-Part
returns-in-Part c = λ value e.
    let stands : HoldsRow c.args.columns.now (length c.in-Part.part.now.before) c.in-Part.part.now.rows c.in-Part.i = subst (Stands c.args.columns.now) c.in-Part.is c.requires.stands in
    c.as_slice-in-Part.ensures.bytes ∙ c.part_key.ensures
    ∙ held-key c.args.columns.now (get_or c.in-Part.part.now.rows c.in-Part.i no_row) c.args.column value stands.held (ap (λ vs. slice_get vs c.args.column) (sym (ap (values_held c.args.columns.now) c.in-Part.is)) ∙ e)
