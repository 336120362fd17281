-- The rows of a stage as they are copied and spelled one by one.
use Rattle.std.proofs.Common.{◌≡◌, ℕ, ◌+◌, ◌<◌, Bool, true, false, cond, List, [], ◌∷◌, ◌++◌, length, map, filter, take, get_or, None, Some, sym, ◌∙◌, ap, arith, append_assoc, length-append}
use Rattle.std.specs.Int.{w32, to_le_bytes}
use Rattle.std.specs.List.{flat_map}
use Rattle.std.proofs.lemmas.Grind.{flat_map-append}
use Rattle.std.proofs.lemmas.List.{flat_map_more, append-nil, map-append, get_or-map, length-map}
use Rattle.std.proofs.lemmas.List.Elements.{filter_more}
use Rattle.ut_value.specs.declared.value.Row.{Row}
use Rattle.ut_stamps.specs.declared.fates.Fate.{Fate}
use Rattle.ut_stamps.specs.declared.visibility.Stamp.{Stamp}
use Rattle.ut_stamps.specs.Stamps.{sees}
use Rattle.ut_exact.specs.Places.{StagedRow}
use Rattle.ut_staged.specs.Staged.{Staged, row_at}
use Rattle.ut_image.specs.Bytes.{row_bytes, rows_bytes}
use Rattle.ut_table.specs.Outside.{rows_in, place_in}
use Rattle.ut_table.specs.declared.stage.Stage.{Stage}
use Rattle.ut_table.specs.declared.stage.Stage.TheVariants.{L1, L2, Closed}
use Rattle.ut_table.proofs.StageLemmas.{stamp_of, in-stage}
use Rattle.ut_capture.specs.Live.{row_of, is_live, live_rows}
use Rattle.ut_capture.specs.Stages.{deltas_bytes}
use Rattle.ut_capture.proofs.ListLemmas.{filter-length, get-in}

module _ (fates : List Fate) (entries : ℕ) (stage : Stage) (s : Staged) (stamps : List Stamp) (i : ℕ) (same : stamps ≡ map stamp_of (rows_in stage s)) (within : i < length stamps) where
  abbrev rows : List StagedRow
  rows = rows_in stage s

  inside : i < length rows
  inside = omega (arith, within, ap length same, length-map rows stamp_of)

  -- the row that stands at a place
  abbrev row : StagedRow
  row = get_or rows i (record { id = 0; values = []; stamp = record { begin = 0; end = None } })

  is_there : row_at s (place_in stage i) ≡ Some row
  is_there = in-stage stage s i ∙ get-in rows i _ inside

  tested : (d : Stamp) (b : Bool) → sees fates entries None (get_or stamps i d) ≡ b → is_live fates entries row ≡ b
  tested d b is = ap (sees fates entries None) (sym (ap (λ (l : List Stamp). get_or l i d) same ∙ get_or-map stamp_of rows i _ d inside)) ∙ is

  more : (b : Bool) → is_live fates entries row ≡ b → live_rows fates entries (take (i + 1) rows) ≡ live_rows fates entries (take i rows) ++ map row_of (cond b (row ∷ []) [])
  more b is = ap (map row_of) (filter_more (is_live fates entries) rows i _ inside) ∙ map-append row_of (filter (is_live fates entries) (take i rows)) (cond (is_live fates entries row) (row ∷ []) [])
      ∙ ap (λ (x : Bool). live_rows fates entries (take i rows) ++ map row_of (cond x (row ∷ []) [])) is

  pub put_more : (d : Stamp) (copy : Row) (first old new : List ℕ) → sees fates entries None (get_or stamps i d) ≡ true → ((r : StagedRow) → row_at s (place_in stage i) ≡ Some r → copy ≡ row_of r)
      → old ≡ first ++ flat_map row_bytes (live_rows fates entries (take i rows)) → new ≡ old ++ row_bytes copy → new ≡ first ++ flat_map row_bytes (live_rows fates entries (take (i + 1) rows))
  put_more d copy first old new seen copied so_far is =
      is ∙ (λ k. so_far k ++ row_bytes (copied row is_there k)) ∙ flat_map_more row_bytes first (live_rows fates entries (take i rows)) (row_of row)
      ∙ ap (λ (l : List Row). first ++ flat_map row_bytes l) (sym (more true (tested d true seen)))

  pub passed_over : (d : Stamp) (first old new : List ℕ) → sees fates entries None (get_or stamps i d) ≡ false
      → old ≡ first ++ flat_map row_bytes (live_rows fates entries (take i rows)) → new ≡ old → new ≡ first ++ flat_map row_bytes (live_rows fates entries (take (i + 1) rows))
  passed_over d first old new unseen so_far is =
      is ∙ so_far ∙ ap (λ (l : List Row). first ++ flat_map row_bytes l) (sym (more false (tested d false unseen) ∙ append-nil (live_rows fates entries (take i rows))))

-- ---- all of them

-- how many stamps are seen is how many rows are live
pub live-count : (fates : List Fate) (entries : ℕ) (rows : List StagedRow) (stamps : List Stamp) (n : ℕ) → stamps ≡ map stamp_of rows → n ≡ length (filter (sees fates entries None) stamps) → n ≡ length (live_rows fates entries rows)
live-count fates entries rows stamps n same is =
    is ∙ ap (λ (l : List Stamp). length (filter (sees fates entries None) l)) same ∙ filter-length stamp_of (sees fates entries None) rows ∙ sym (length-map (filter (is_live fates entries) rows) row_of)

-- the bytes of all stages
module _ (fates : List Fate) (entries : ℕ) (s : Staged) where
  abbrev x : List Row
  x = live_rows fates entries (rows_in Closed s)

  abbrev y : List Row
  y = live_rows fates entries (rows_in L2 s)

  abbrev z : List Row
  z = live_rows fates entries (rows_in L1 s)

  pub deltas-are : (closed l2 l1 : ℕ) (a b c d e : List ℕ) → closed ≡ length x → l2 ≡ length y → l1 ≡ length z
      → a ≡ to_le_bytes w32 (closed + l2) → b ≡ a ++ flat_map row_bytes x → c ≡ b ++ flat_map row_bytes y
      → d ≡ c ++ to_le_bytes w32 l1 → e ≡ d ++ flat_map row_bytes z → e ≡ deltas_bytes fates entries s
  deltas-are closed l2 l1 a b c d e closed_is l2_is l1_is a_is b_is c_is d_is e_is =
      let older : c ≡ rows_bytes (x ++ y) =
      c_is ∙ ap (λ (l : List ℕ). l ++ flat_map row_bytes y) (b_is ∙ ap (λ (l : List ℕ). l ++ flat_map row_bytes x) (a_is ∙ ap (to_le_bytes w32) ((λ i. closed_is i + l2_is i) ∙ sym (length-append x y))))
      ∙ append_assoc (to_le_bytes w32 (length (x ++ y))) (flat_map row_bytes x) (flat_map row_bytes y)
      ∙ ap (λ (l : List ℕ). to_le_bytes w32 (length (x ++ y)) ++ l) (sym (flat_map-append row_bytes x y)) in
      e_is ∙ ap (λ (l : List ℕ). l ++ flat_map row_bytes z) (d_is ∙ (λ i. older i ++ to_le_bytes w32 (l1_is i)))
      ∙ append_assoc (rows_bytes (x ++ y)) (to_le_bytes w32 (length z)) (flat_map row_bytes z)
