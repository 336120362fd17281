use Rattle.std.proofs.Common.{◌∙◌, ◌++◌, ◌∷◌, [], take, sym, ap, arith}
use Rattle.std.proofs.lemmas.List.{take_more, take_all}
use Rattle.std.proofs.lemmas.Option.{slice_get_within, get_or_from_slice_get}
use Rattle.ut_table.specs.Standing.{values_held}
use Rattle.ut_table.proofs.DecodedLemmas.{stands-length}
use Rattle.ut_table.proofs.standing.values_of.Goals as goal

pub loop-column-preserved : goal.loop-column-preserved
loop-column-preserved c =
    let values = values_held c.args.columns.now c.args.standing in
    let value = c.in_ok-value.value in
    let column = c.loop-column.column in
    c.in_ok-push.ensures.ok
    ∙ ap (λ l. l ++ value ∷ []) c.loop-column.invariant
    ∙ ap (λ v. take column values ++ v ∷ []) (sym (get_or_from_slice_get values column value value c.in_ok-value.ensures))
    ∙ sym (take_more values column value (slice_get_within values column value c.in_ok-value.ensures))

pub returns : goal.returns
returns c =
    let values = values_held c.args.columns.now c.args.standing in
    c.loop-column.invariant ∙ take_all c.loop-column.column values (omega (arith, stands-length c.args.columns.now c.args.standing c.requires, c.loop-column-test.false))
