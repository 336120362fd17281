-- The rows of a stage that are seen, pushed one by one.
use Rattle.std.proofs.Common.{◌≡◌, ℕ, ◌+◌, ◌<◌, Bool, true, false, cond, List, [], ◌∷◌, ◌++◌, length, map, filter, take, get_or, None, Some, sym, ◌∙◌, ap, arith, append_assoc}
use Rattle.std.proofs.lemmas.List.{append-nil, map-append, get_or-map, length-map}
use Rattle.std.proofs.lemmas.List.Elements.{filter_more}
use Rattle.std.proofs.lemmas.Option.{slice_get-get_or}
use Rattle.ut_value.specs.declared.value.Row.{Row}
use Rattle.ut_stamps.specs.declared.visibility.Stamp.{Stamp}
use Rattle.ut_exact.specs.Places.{StagedRow}
use Rattle.ut_staged.specs.Staged.{Staged, row_at, entered_l1, stamped_row}
use Rattle.ut_table.specs.Filled.{row_of}
use Rattle.ut_table.specs.Outside.{rows_in, place_in}
use Rattle.ut_table.specs.declared.stage.Stage.{Stage}
use Rattle.ut_table.proofs.StageLemmas.{stamp_of, in-stage}
use Rattle.ut_shown.specs.Shown.{Eyes}
use Rattle.ut_shown.specs.Shown.{shown_row, shown_stamp, sees_stamp, is_seen, shown_rows}

-- the rows of a stage that are seen, behind those of another table's first stage
abbrev pub pushed : Eyes → List StagedRow → Staged → Staged
pushed l rows out = record out { l1 = out.l1 ++ shown_rows l rows }

module _ (l : Eyes) (stage : Stage) (s : Staged) (stamps : List Stamp) (i : ℕ) (same : stamps ≡ map stamp_of (rows_in stage s)) (within : i < length stamps) where
  abbrev rows : List StagedRow
  rows = rows_in stage s

  inside : i < length rows
  inside = omega (arith, within, ap length same, length-map rows stamp_of)

  -- the row that stands at a place
  abbrev row : StagedRow
  row = get_or rows i (record { id = 0; values = []; stamp = record { begin = 0; end = None } })

  pub is_there : row_at s (place_in stage i) ≡ Some row
  is_there = in-stage stage s i ∙ slice_get-get_or rows i _ inside

  tested : (d : Stamp) (b : Bool) → sees_stamp l (get_or stamps i d) ≡ b → is_seen l row ≡ b
  tested d b is = ap (sees_stamp l) (sym (ap (λ (x : List Stamp). get_or x i d) same ∙ get_or-map stamp_of rows i _ d inside)) ∙ is

  more : (b : Bool) → is_seen l row ≡ b → shown_rows l (take (i + 1) rows) ≡ shown_rows l (take i rows) ++ map (shown_row true) (cond b (row ∷ []) [])
  more b is = ap (map (shown_row true)) (filter_more (is_seen l) rows i _ inside) ∙ map-append (shown_row true) (filter (is_seen l) (take i rows)) (cond (is_seen l row) (row ∷ []) [])
      ∙ ap (λ (x : Bool). shown_rows l (take i rows) ++ map (shown_row true) (cond x (row ∷ []) [])) is

  pub push-more : (d : Stamp) (copy : Row) (stamp : Stamp) (first old new : Staged) → sees_stamp l (get_or stamps i d) ≡ true → ((r : StagedRow) → row_at s (place_in stage i) ≡ Some r → copy ≡ row_of r) → stamp ≡ shown_stamp true
      → old ≡ pushed l (take i rows) first → new ≡ entered_l1 (stamped_row stamp copy) old → new ≡ pushed l (take (i + 1) rows) first
  push-more d copy stamp first old new seen copied stamped so_far is =
      is ∙ (λ k. entered_l1 (stamped_row (stamped k) (copied row is_there k)) (so_far k))
      ∙ ap (λ (x : List StagedRow). record first { l1 = x }) (append_assoc first.l1 (shown_rows l (take i rows)) (shown_row true row ∷ []) ∙ ap (λ (x : List StagedRow). first.l1 ++ x) (sym (more true (tested d true seen))))

  pub passed-over : (d : Stamp) (first old new : Staged) → sees_stamp l (get_or stamps i d) ≡ false → old ≡ pushed l (take i rows) first → new ≡ old → new ≡ pushed l (take (i + 1) rows) first
  passed-over d first old new unseen so_far is =
      is ∙ so_far ∙ ap (λ (x : List StagedRow). record first { l1 = first.l1 ++ x }) (sym (more false (tested d false unseen) ∙ append-nil (shown_rows l (take i rows))))
