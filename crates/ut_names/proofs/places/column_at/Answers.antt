use Rattle.std.proofs.Common.{◌≡◌, ◌<◌, length, Some, refl, sym, ap, ◌∙◌}
use Rattle.std.specs.Prelude.{slice_get}
use Rattle.std.specs.Option.{option_map}
use Rattle.std.proofs.lemmas.Option.{slice_get_read}
use Rattle.ut_value.specs.declared.value.Column.{Column}
use Rattle.ut_plain.specs.Tables.{column_of}
use Rattle.ut_names.proofs.PlaceLemmas.{column_below, column_kind, column_there}
use Rattle.ut_names.proofs.places.column_at.Goals as goal

pub returns-clause-known : goal.returns-clause-known
returns-clause-known c = column_there c.args.columns.now c.args.name.now c.in_ok-place.place (sym c.in_ok-place.ensures)

pub returns-clause-kind : goal.returns-clause-kind
returns-clause-kind c =
    let columns = c.args.columns.now in
    let place = c.in_ok-place.place in
    let at : column_of columns c.args.name.now ≡ Some place = sym c.in_ok-place.ensures in
    let below : place < length columns = column_below columns c.args.name.now place at in
    let stands : slice_get columns place ≡ Some c.in_ok-column.column.now = slice_get_read columns (length columns) place c.in_ok-column.column.now refl below c.in_ok-column.ensures.lookup.1 in
    sym (column_kind columns c.args.name.now place at) ∙ ap (option_map (λ (x : Column). x.kind)) stands
