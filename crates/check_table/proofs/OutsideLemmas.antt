-- A row stands wherever a stage has a stamp.
use Rattle.std.proofs.Common.{◌≡◌, ℕ, ◌<◌, ◌∙◌, List, [], length, map, None, refl, sym, ap, subst, arith}
use Rattle.std.specs.Prelude.{IsSome}
use Rattle.std.proofs.lemmas.List.{length-map}
use Rattle.std.proofs.lemmas.Option.{slice_get-get_or}
use Rattle.ut_stamps.specs.declared.visibility.Stamp.{Stamp}
use Rattle.ut_staged.specs.Staged.{Staged, row_at}
use Rattle.ut_table.specs.Outside.{rows_in, place_in}
use Rattle.ut_table.specs.declared.stage.Stage.{Stage}
use Rattle.ut_table.proofs.StageLemmas.{stamp_of, in-stage}

pub is-there : (stage : Stage) (s : Staged) (stamps : List Stamp) (i : ℕ) → stamps ≡ map stamp_of (rows_in stage s) → i < length stamps → IsSome (row_at s (place_in stage i))
is-there stage s stamps i same within =
    let rows = rows_in stage s in
    let inside : i < length rows = omega (arith, within, ap length same, length-map rows stamp_of) in
    subst IsSome (sym (in-stage stage s i ∙ slice_get-get_or rows i (record { id = 0; values = []; stamp = record { begin = 0; end = None } }) inside)) refl
