use Rattle.std.proofs.Common.{◌≡◌, ◌∙◌, ◌+◌, [], ◌∷◌, List, ℕ, length, map, All, sym, ap, subst, arith}
use Rattle.std.specs.Arc.{arc_value}
use Rattle.std.specs.Global.{Vec}
use Rattle.std.specs.List.Sorted.{IsPermutation}
use Rattle.std.proofs.lemmas.List.{length-append, length-map, map-append}
use Rattle.std.proofs.lemmas.List.Sorted.{IsPermutation-refl}
use Rattle.ut_l2.specs.KeyRows.{KeyRow}
use Rattle.ut_l2.proofs.DeltaLemmas.{map-map}
use Rattle.ut_main.specs.Parts.{MainValue}
use Rattle.ut_prefix.specs.Chain.{shared_dicts}
use Rattle.ut_merge.specs.declared.old.Old.{Old}
use Rattle.ut_merge.specs.Jobs.{kept_olds, kept_rows, row_of}
use Rattle.ut_merge.specs.Places.{IsOld}
use Rattle.ut_merge.specs.Columns.{codes_in, IsColumn}
use Rattle.ut_merge.proofs.ArrangeLemmas.{columns-next}
use Rattle.ut_merge.proofs.KeptLemmas.{olds-are, olds-low, rows-olds}
use Rattle.ut_merge.proofs.arranging.kept.Goals as goal

pub ids_of-requires : goal.ids_of-requires
ids_of-requires g c = subst (λ (l : List Old). All (IsOld c.args.job.now) l) (sym (c.as_slice.ensures.value ∙ c.in_ok-olds.ensures.olds)) (olds-are c.args.job.now)

pub code_column-requires-clause-olds : goal.code_column-requires-clause-olds
code_column-requires-clause-olds g c κs within =
    subst (λ (l : List Old). All (IsOld c.args.job.now) l) (sym (c.as_slice-in-loop-column.ensures.value ∙ c.in_ok-olds.ensures.olds)) (olds-are c.args.job.now)

pub code_column-requires-clause-few : goal.code_column-requires-clause-few
code_column-requires-clause-few g c κs within =
    omega (arith, olds-low c.args.job.now c.requires.job, ap (λ (l : List Old). length l) (c.as_slice-in-loop-column.ensures.value ∙ c.in_ok-olds.ensures.olds))

pub loop-column-preserved : goal.loop-column-preserved
loop-column-preserved g c =
    let job = c.args.job.now in
    let n = c.loop-column.column in
    let dicts = c.loop-column.dicts.items in
    let codes = c.loop-column.codes.items in
    let coded = c.in_ok-coded.coded in
    let rows = ap (λ (l : List Old). map (row_of job) l) (c.as_slice-in-loop-column.ensures.value ∙ c.in_ok-olds.ensures.olds) ∙ rows-olds job in
    let here = subst (λ (l : List KeyRow). IsColumn job n l (arc_value coded.dict) coded.codes.items) rows c.in_ok-coded.ensures in (
      ap length c.in_ok-push.ensures.items ∙ length-append dicts (coded.dict ∷ []) ∙ ap (λ m. m + 1) c.loop-column.invariant.0,
      ap length c.in_ok-push-2.ensures.items ∙ length-append codes (coded.codes ∷ []) ∙ ap (λ m. m + 1) c.loop-column.invariant.1,
      columns-next job (kept_rows job) n (shared_dicts dicts) (shared_dicts c.push.new.self.items) (codes_in codes) (codes_in c.push-in-loop-column.new.self.items) (arc_value coded.dict) coded.codes.items
          (length-map dicts (λ dict. arc_value dict) ∙ c.loop-column.invariant.0) (length-map codes (λ (v : Vec ℕ). v.items) ∙ c.loop-column.invariant.1) c.loop-column.invariant.2 here
          (ap (λ l. shared_dicts l) c.in_ok-push.ensures.items ∙ map-append (λ dict. arc_value dict) dicts (coded.dict ∷ []))
          (ap (λ (l : List (Vec ℕ)). codes_in l) c.in_ok-push-2.ensures.items ∙ map-append (λ (v : Vec ℕ). v.items) codes (coded.codes ∷ [])),
    )

pub returns : goal.returns
returns g c =
    let job = c.args.job.now in
    let olds = c.in_ok-olds.ensures.olds in
    let width : c.loop-column.column ≡ job.width = omega (arith, c.loop-column-test.false, c.loop-column.auto.column-end, c.width-column-end.ensures, ap (λ (m : MainValue). m.width) c.requires.staying) in
    let rows = ap (λ (l : List Old). map (row_of job) l) olds ∙ rows-olds job in
    record {
      places = subst (λ (l : List Old). IsPermutation (kept_olds job) l) (sym olds) (IsPermutation-refl (kept_olds job));
      in_place = λ _. olds;
      rows_are = rows;
      wide = c.in_ok-olds.ensures.wide;
      ids_are =
          c.in_ok-ids.ensures ∙ ap (λ (l : List Old). map (λ old. (row_of job old).id) l) c.as_slice.ensures.value
          ∙ sym (map-map (λ (row : KeyRow). row.id) (row_of job) c.in_ok-olds.olds.items) ∙ ap (λ (l : List KeyRow). map (λ row. row.id) l) rows;
      dicts_count = c.loop-column.invariant.0 ∙ width;
      codes_count = c.loop-column.invariant.1 ∙ width;
      columns = λ j lt. c.loop-column.invariant.2 j (omega (arith, lt, width));
    }
