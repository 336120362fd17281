use Rattle.std.proofs.Common.{◌≡◌, ◌∙◌, sym, ap, true, rules, List}
use Rattle.ut_value.specs.declared.value.Column.{Column}
use Rattle.ut_value.specs.declared.value.Value.{Value}
use Rattle.ut_plain.specs.Tables.{fits_columns}
use Rattle.ut_staged.specs.Staged.{Staged, begun_row, entered_l1}
use Rattle.check_tables.proofs.shot.one_row.Goals as goal

pub returns : goal.returns
returns g c =
    let columns : c.columns.result.now ≡ c.args.columns = c.columns.ensures ∙ ap (λ (s : Staged). s.columns) c.in_ok-table.ensures in
    let fitting : c.fits_columns.result ≡ true = search rules in
    record {
      row = record { id = 1; values = c.push.new.self };
      fits = ap (λ (cs : List Column). fits_columns cs c.push.new.self) (sym columns) ∙ ap (λ (vs : List Value). fits_columns c.columns.result.now vs) (sym c.as_slice.ensures) ∙ sym c.fits_columns.ensures ∙ fitting;
      kept = cc;
      is = c.push-2.ensures.stages ∙ ap (entered_l1 (begun_row 0 (record { id = 1; values = c.push.new.self }))) (c.room.ensures.stages ∙ c.in_ok-table.ensures);
    }
