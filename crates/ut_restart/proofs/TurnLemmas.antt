-- A turn of each loop that notes: that what it notes has room, and what is then to come.
use Rattle.std.proofs.Common.{◌≡◌, ℕ, zero, suc, ◌+◌, ◌<◌, ◌≤◌, Bool, true, false, List, [], ◌∷◌, ◌++◌, length, map, drop, get_or, refl, sym, ◌∙◌, ap, subst, arith}
use Rattle.std.proofs.lemmas.List.{length-map, get_or_default}
use Rattle.ut_value.specs.declared.value.Row.{Row}
use Rattle.ut_l2.specs.KeyRows.{KeyRow, no_row}
use Rattle.ut_main.specs.Parts.{MainValue}
use Rattle.ut_image.specs.declared.drawn.PartRef.{PartRef}
use Rattle.ut_image.specs.declared.drawn.Drawn.{Drawn}
use Rattle.ut_stamps.specs.declared.place.Place.{Place}
use Rattle.ut_stamps.specs.declared.place.Place.TheVariants.{Main}
use Rattle.ut_restart.specs.declared.noting.Delta.TheVariants as deltas
use Rattle.ut_restart.specs.declared.rows.Rows.{Rows}
use Rattle.ut_restart.specs.Rows.{position}
use Rattle.ut_restart.specs.Shown.{marks_of}
use Rattle.ut_restart.specs.Noted.{Note, noted, row_cells, part_cells, rows_noted, deltas_noted, part_noted, parts_noted, mains_noted, HasNoted, Noted}
use Rattle.ut_restart.proofs.NotedLemmas.{Noting, noting-then, noting-room, noted-one, noted-refl}
use Rattle.ut_restart.proofs.LoopLemmas.{rows-step, deltas-step, part-live, part-dead, parts-step, mains-step}

-- ---- rows of a delta

pub rows-room : (first now : Rows) (all : List Note) (n : ℕ) (at : ℕ → Place) (rows : List Row) (i : ℕ) (row : Row) → i < length rows → row ≡ get_or rows i row
    → Noting first all now (noted n at i (row_cells (drop i rows))) → first.load + length all ≤ 2147483648 → now.load < 2147483648
rows-room first now all n at rows i row lt is noting few =
    let room = noting-room first now all ((row.id, position n (at i)) ∷ []) (noted n at (i + 1) (row_cells (drop (i + 1) rows))) (noted n at i (row_cells (drop i rows))) noting (rows-step n at rows i row lt is) few in
    omega (arith, room)

pub rows-turn : (first now next : Rows) (all : List Note) (n : ℕ) (at : ℕ → Place) (rows : List Row) (i : ℕ) (row : Row) → i < length rows → row ≡ get_or rows i row
    → Noting first all now (noted n at i (row_cells (drop i rows))) → HasNoted now row.id (position n (at i)) next → Noting first all next (noted n at (i + 1) (row_cells (drop (i + 1) rows)))
rows-turn first now next all n at rows i row lt is noting more =
    noting-then first now next all ((row.id, position n (at i)) ∷ []) (noted n at (i + 1) (row_cells (drop (i + 1) rows))) (noted n at i (row_cells (drop i rows))) noting (rows-step n at rows i row lt is) (noted-one now next row.id (position n (at i)) more)

-- ---- deltas

module _ (first now : Rows) (all : List Note) (tables : List Drawn) (n : ℕ) (t : Drawn) (l2 : List Row) (lt : n < length tables) (is : t ≡ get_or tables n t) (same : l2 ≡ t.l2) (noting : Noting first all now (deltas_noted n (drop n tables))) where
  pub second-room : first.load + length all ≤ 2147483648 → now.load + length (rows_noted n deltas.Second l2) ≤ 2147483648
  second-room few = subst (λ (l : List Row). now.load + length (rows_noted n deltas.Second l) ≤ 2147483648) (sym same)
      (noting-room first now all (rows_noted n deltas.Second t.l2) (rows_noted n deltas.First t.l1 ++ deltas_noted (n + 1) (drop (n + 1) tables)) (deltas_noted n (drop n tables)) noting (deltas-step tables n t lt is) few)

  pub second-turn : (mid : Rows) → Noted now (rows_noted n deltas.Second l2) mid → Noting first all mid (rows_noted n deltas.First t.l1 ++ deltas_noted (n + 1) (drop (n + 1) tables))
  second-turn mid more = noting-then first now mid all (rows_noted n deltas.Second t.l2) (rows_noted n deltas.First t.l1 ++ deltas_noted (n + 1) (drop (n + 1) tables)) (deltas_noted n (drop n tables)) noting (deltas-step tables n t lt is)
      (subst (λ (l : List Row). Noted now (rows_noted n deltas.Second l) mid) same more)

module _ (first mid : Rows) (all rest : List Note) (n : ℕ) (l1 own : List Row) (same : l1 ≡ own) (noting : Noting first all mid (rows_noted n deltas.First own ++ rest)) where
  pub first-room : first.load + length all ≤ 2147483648 → mid.load + length (rows_noted n deltas.First l1) ≤ 2147483648
  first-room few = subst (λ (l : List Row). mid.load + length (rows_noted n deltas.First l) ≤ 2147483648) (sym same)
      (noting-room first mid all (rows_noted n deltas.First own) rest (rows_noted n deltas.First own ++ rest) noting refl few)

  pub first-turn : (next : Rows) → Noted mid (rows_noted n deltas.First l1) next → Noting first all next rest
  first-turn next more = noting-then first mid next all (rows_noted n deltas.First own) rest (rows_noted n deltas.First own ++ rest) noting refl (subst (λ (l : List Row). Noted mid (rows_noted n deltas.First l) next) same more)

-- ---- a part

module _ (first now : Rows) (all : List Note) (n p : ℕ) (rows : List KeyRow) (live : List Bool) (i : ℕ) (lt : i < length rows) (same : length live ≡ length rows) (noting : Noting first all now (noted n (Main p) i (part_cells (drop i rows) (drop i live)))) where
  row-itself : get_or rows i no_row ≡ get_or rows i (get_or rows i no_row)
  row-itself = get_or_default rows i no_row (get_or rows i no_row) lt

  mark-itself : get_or live i false ≡ get_or live i (get_or live i false)
  mark-itself = get_or_default live i false (get_or live i false) (omega (arith, lt, same))

  step : get_or live i false ≡ true → noted n (Main p) i (part_cells (drop i rows) (drop i live)) ≡ (((get_or rows i no_row).id, position n (Main p i)) ∷ []) ++ noted n (Main p) (i + 1) (part_cells (drop (i + 1) rows) (drop (i + 1) live))
  step marked = part-live n (Main p) rows live i (get_or rows i no_row) (get_or live i false) lt same row-itself mark-itself marked

  pub live-room : get_or live i false ≡ true → first.load + length all ≤ 2147483648 → now.load < 2147483648
  live-room marked few =
      let room = noting-room first now all (((get_or rows i no_row).id, position n (Main p i)) ∷ []) (noted n (Main p) (i + 1) (part_cells (drop (i + 1) rows) (drop (i + 1) live))) (noted n (Main p) i (part_cells (drop i rows) (drop i live))) noting (step marked) few in
      omega (arith, room)

  pub live-turn : (next : Rows) → get_or live i false ≡ true → HasNoted now (get_or rows i no_row).id (position n (Main p i)) next → Noting first all next (noted n (Main p) (i + 1) (part_cells (drop (i + 1) rows) (drop (i + 1) live)))
  live-turn next marked more =
      noting-then first now next all (((get_or rows i no_row).id, position n (Main p i)) ∷ []) (noted n (Main p) (i + 1) (part_cells (drop (i + 1) rows) (drop (i + 1) live))) (noted n (Main p) i (part_cells (drop i rows) (drop i live))) noting (step marked)
      (noted-one now next (get_or rows i no_row).id (position n (Main p i)) more)

  pub dead-turn : get_or live i false ≡ false → Noting first all now (noted n (Main p) (i + 1) (part_cells (drop (i + 1) rows) (drop (i + 1) live)))
  dead-turn unmarked =
      noting-then first now now all [] (noted n (Main p) (i + 1) (part_cells (drop (i + 1) rows) (drop (i + 1) live))) (noted n (Main p) i (part_cells (drop i rows) (drop i live))) noting
      (part-dead n (Main p) rows live i (get_or rows i no_row) (get_or live i false) lt same row-itself mark-itself unmarked) (noted-refl now)

-- ---- parts

pub refs-long : (refs : List PartRef) (parts : List (List KeyRow)) → map length (marks_of refs) ≡ map length parts → length refs ≡ length parts
refs-long refs parts same = sym (length-map refs (λ (ref : PartRef). ref.live)) ∙ sym (length-map (marks_of refs) length) ∙ ap length same ∙ length-map parts length

pub marks-part : (refs : List PartRef) (parts : List (List KeyRow)) (p : ℕ) (ref : PartRef) → map length (marks_of refs) ≡ map length parts → p < length parts → ref ≡ get_or refs p ref → length ref.live ≡ length (get_or parts p [])
marks-part refs [] p ref same lt is = absurd (omega arith)
marks-part [] (rows ∷ parts) p ref same lt is = cc
marks-part (r ∷ refs) (rows ∷ parts) zero ref same lt is = ap (λ (x : PartRef). length x.live) is ∙ ap (λ (l : List ℕ). get_or l 0 0) same
marks-part (r ∷ refs) (rows ∷ parts) (suc p) ref same lt is = marks-part refs parts p ref (ap (drop 1) same) (omega arith) is

module _ (first now : Rows) (all : List Note) (n : ℕ) (refs : List PartRef) (parts : List (List KeyRow)) (p : ℕ) (ref : PartRef) (rows : List KeyRow) (lt : p < length refs) (there : p < length parts) (is : ref ≡ get_or refs p ref) (rows_are : rows ≡ get_or parts p [])
    (noting : Noting first all now (parts_noted n p (drop p refs) (drop p parts))) where
  part-step : parts_noted n p (drop p refs) (drop p parts) ≡ part_noted n p rows ref.live ++ parts_noted n (p + 1) (drop (p + 1) refs) (drop (p + 1) parts)
  part-step = parts-step n refs parts p ref rows lt there is (rows_are ∙ get_or_default parts p [] rows there)

  pub part-room : first.load + length all ≤ 2147483648 → now.load + length (part_noted n p rows ref.live) ≤ 2147483648
  part-room few = noting-room first now all (part_noted n p rows ref.live) (parts_noted n (p + 1) (drop (p + 1) refs) (drop (p + 1) parts)) (parts_noted n p (drop p refs) (drop p parts)) noting part-step few

  pub part-turn : (next : Rows) → Noted now (part_noted n p rows ref.live) next → Noting first all next (parts_noted n (p + 1) (drop (p + 1) refs) (drop (p + 1) parts))
  part-turn next more = noting-then first now next all (part_noted n p rows ref.live) (parts_noted n (p + 1) (drop (p + 1) refs) (drop (p + 1) parts)) (parts_noted n p (drop p refs) (drop p parts)) noting part-step more

-- ---- mains

module _ (first now : Rows) (all : List Note) (tables : List Drawn) (mains : List MainValue) (n : ℕ) (t : Drawn) (main : MainValue) (refs : List PartRef) (lt : n < length tables) (there : n < length mains) (is : t ≡ get_or tables n t) (main_is : main ≡ get_or mains n main) (same : refs ≡ t.parts)
    (noting : Noting first all now (mains_noted n (drop n tables) (drop n mains))) where
  pub main-room : first.load + length all ≤ 2147483648 → now.load + length (parts_noted n 0 refs main.parts) ≤ 2147483648
  main-room few = subst (λ (l : List PartRef). now.load + length (parts_noted n 0 l main.parts) ≤ 2147483648) (sym same)
      (noting-room first now all (parts_noted n 0 t.parts main.parts) (mains_noted (n + 1) (drop (n + 1) tables) (drop (n + 1) mains)) (mains_noted n (drop n tables) (drop n mains)) noting (mains-step tables mains n t main lt there is main_is) few)

  pub main-turn : (next : Rows) → Noted now (parts_noted n 0 refs main.parts) next → Noting first all next (mains_noted (n + 1) (drop (n + 1) tables) (drop (n + 1) mains))
  main-turn next more = noting-then first now next all (parts_noted n 0 t.parts main.parts) (mains_noted (n + 1) (drop (n + 1) tables) (drop (n + 1) mains)) (mains_noted n (drop n tables) (drop n mains)) noting (mains-step tables mains n t main lt there is main_is)
      (subst (λ (l : List PartRef). Noted now (parts_noted n 0 l main.parts) next) same more)
