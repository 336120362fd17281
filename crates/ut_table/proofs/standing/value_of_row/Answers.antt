use Rattle.std.proofs.Common.{◌≡◌, ◌∙◌, ◌<◌, length, List, Some, get_or, ap, sym, subst, arith}
use Rattle.std.specs.Prelude.{slice_get}
use Rattle.std.proofs.lemmas.Option.{slice_get_read}
use Rattle.std.proofs.lemmas.Result.{IfOk-weaker}
use Rattle.ut_value.specs.declared.value.Value.{Value}
use Rattle.ut_value.specs.KeyBytes.{IsKeyOf}
use Rattle.ut_l2.specs.KeyRows.{no_row}
use Rattle.ut_table.specs.Decoded.{decoded}
use Rattle.ut_table.specs.Kept.{IsRow, HoldsRow}
use Rattle.ut_table.specs.Standing.{values_held, Stands}
use Rattle.ut_table.proofs.DecodedLemmas.{fits-length, held-value}
use Rattle.ut_table.proofs.standing.value_of_row.Goals as goal

pub bounds-as_slice-column : goal.bounds-as_slice-column
bounds-as_slice-column c =
    let stands : IsRow c.args.columns.now c.in-Row.row.now = subst (Stands c.args.columns.now) c.in-Row.is c.requires.stands in
    omega (arith, fits-length c.args.columns.now c.in-Row.row.now.values stands.fits, ap (λ (vs : List Value). length vs) c.as_slice.ensures, c.requires.column)

pub decoded-requires : goal.decoded-requires
decoded-requires c =
    let item = c.index-columns-column.result in
    let kind = (get_or c.args.columns.now c.args.column item).kind in
    let row = get_or c.in-Delta.l2.now.rows c.in-Delta.i no_row in
    let stands : HoldsRow c.args.columns.now c.in-Delta.l2.now.width c.in-Delta.l2.now.rows c.in-Delta.i = subst (Stands c.args.columns.now) c.in-Delta.is c.requires.stands in
    subst (λ key. IsKeyOf kind key (decoded kind key)) (sym c.delta_key.ensures) (held-value c.args.columns.now row c.args.column item stands.held c.requires.column).1

pub decoded-requires-in-Part : goal.decoded-requires-in-Part
decoded-requires-in-Part c =
    let item = c.index-columns-column.result in
    let kind = (get_or c.args.columns.now c.args.column item).kind in
    let row = get_or c.in-Part.part.now.rows c.in-Part.i no_row in
    let stands : HoldsRow c.args.columns.now (length c.in-Part.part.now.before) c.in-Part.part.now.rows c.in-Part.i = subst (Stands c.args.columns.now) c.in-Part.is c.requires.stands in
    subst (λ key. IsKeyOf kind key (decoded kind key)) (sym (c.as_slice-in-Part.ensures.bytes ∙ c.part_key.ensures)) (held-value c.args.columns.now row c.args.column item stands.held c.requires.column).1

pub returns-in-Row : goal.returns-in-Row
returns-in-Row c =
    let item = c.index-as_slice-column.result in
    let stands : IsRow c.args.columns.now c.in-Row.row.now = subst (Stands c.args.columns.now) c.in-Row.is c.requires.stands in
    let lt : c.args.column < length c.as_slice.result.now = omega (arith, fits-length c.args.columns.now c.in-Row.row.now.values stands.fits, ap (λ (vs : List Value). length vs) c.as_slice.ensures, c.requires.column) in
    let values = c.as_slice.ensures ∙ sym (ap (values_held c.args.columns.now) c.in-Row.is) in
    IfOk-weaker c.copy.result (λ (v : Value). v ≡ item) (λ (v : Value). slice_get (values_held c.args.columns.now c.args.standing) c.args.column ≡ Some v)
    (λ v e. ap (λ vs. slice_get vs c.args.column) (sym values) ∙ slice_get_read c.as_slice.result.now (length c.as_slice.result.now) c.args.column item (λ _. length c.as_slice.result.now) lt c.index-as_slice-column.is ∙ ap Some (sym e))
    c.copy.ensures

pub returns-in-Delta : goal.returns-in-Delta
returns-in-Delta c =
    let item = c.index-columns-column.result in
    let kind = (get_or c.args.columns.now c.args.column item).kind in
    let row = get_or c.in-Delta.l2.now.rows c.in-Delta.i no_row in
    let stands : HoldsRow c.args.columns.now c.in-Delta.l2.now.width c.in-Delta.l2.now.rows c.in-Delta.i = subst (Stands c.args.columns.now) c.in-Delta.is c.requires.stands in
    IfOk-weaker c.decoded.result (λ (v : Value). v ≡ decoded kind c.delta_key.result.now) (λ (v : Value). slice_get (values_held c.args.columns.now c.args.standing) c.args.column ≡ Some v)
    (λ v e. ap (λ s. slice_get (values_held c.args.columns.now s) c.args.column) c.in-Delta.is
    ∙ (held-value c.args.columns.now row c.args.column item stands.held c.requires.column).0 ∙ ap (λ key. Some (decoded kind key)) (sym c.delta_key.ensures) ∙ ap Some (sym e))
    c.decoded.ensures

pub returns-in-Part : goal.returns-in-Part
returns-in-Part c =
    let item = c.index-columns-column.result in
    let kind = (get_or c.args.columns.now c.args.column item).kind in
    let row = get_or c.in-Part.part.now.rows c.in-Part.i no_row in
    let stands : HoldsRow c.args.columns.now (length c.in-Part.part.now.before) c.in-Part.part.now.rows c.in-Part.i = subst (Stands c.args.columns.now) c.in-Part.is c.requires.stands in
    IfOk-weaker c.decoded-in-Part.result (λ (v : Value). v ≡ decoded kind c.as_slice-in-Part.result.now) (λ (v : Value). slice_get (values_held c.args.columns.now c.args.standing) c.args.column ≡ Some v)
    (λ v e. ap (λ s. slice_get (values_held c.args.columns.now s) c.args.column) c.in-Part.is
    ∙ (held-value c.args.columns.now row c.args.column item stands.held c.requires.column).0 ∙ ap (λ key. Some (decoded kind key)) (sym (c.as_slice-in-Part.ensures.bytes ∙ c.part_key.ensures)) ∙ ap Some (sym e))
    c.decoded-in-Part.ensures
