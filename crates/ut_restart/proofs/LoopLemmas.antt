-- The notes that are to come, turn by turn.
use Rattle.std.proofs.Common.{◌≡◌, ℕ, zero, suc, ◌+◌, ◌<◌, ◌≤◌, Bool, true, false, not, cond, List, [], ◌∷◌, ◌++◌, length, drop, get_or, refl, sym, ◌∙◌, ap, arith}
use Rattle.ut_value.specs.declared.value.Row.{Row}
use Rattle.ut_l2.specs.KeyRows.{KeyRow}
use Rattle.ut_main.specs.Parts.{MainValue}
use Rattle.ut_image.specs.declared.drawn.PartRef.{PartRef}
use Rattle.ut_image.specs.declared.drawn.Drawn.{Drawn}
use Rattle.ut_stamps.specs.declared.place.Place.{Place}
use Rattle.ut_restart.specs.declared.noting.Delta.TheVariants as deltas
use Rattle.ut_restart.specs.Rows.{position}
use Rattle.ut_restart.specs.Noted.{noted, row_cells, part_cells, rows_noted, deltas_noted, part_noted, parts_noted, mains_noted}

pub drop-at : {X : Type 0} (xs : List X) (i : ℕ) (x : X) → i < length xs → x ≡ get_or xs i x → drop i xs ≡ x ∷ drop (i + 1) xs
drop-at [] i x lt is = absurd (omega arith)
drop-at (y ∷ xs) zero x lt is = λ j. sym is j ∷ xs
drop-at (y ∷ xs) (suc i) x lt is = let e : suc (i + 1) ≡ suc i + 1 = omega arith in drop-at xs i x (omega arith) is ∙ ap (λ (k : ℕ). x ∷ drop k (y ∷ xs)) e

pub drop-end : {X : Type 0} (xs : List X) (i : ℕ) → length xs ≤ i → drop i xs ≡ []
drop-end [] zero h = refl
drop-end [] (suc i) h = refl
drop-end (x ∷ xs) zero h = absurd (omega arith)
drop-end (x ∷ xs) (suc i) h = drop-end xs i (omega arith)

-- ---- rows of a delta

pub rows-long : (n : ℕ) (at : ℕ → Place) (i : ℕ) (rows : List Row) → length (noted n at i (row_cells rows)) ≡ length rows
rows-long n at i [] = refl
rows-long n at i (r ∷ rows) = ap suc (rows-long n at (suc i) rows)

pub rows-step : (n : ℕ) (at : ℕ → Place) (rows : List Row) (i : ℕ) (row : Row) → i < length rows → row ≡ get_or rows i row → noted n at i (row_cells (drop i rows)) ≡ ((row.id, position n (at i)) ∷ []) ++ noted n at (i + 1) (row_cells (drop (i + 1) rows))
rows-step n at rows i row lt is =
    let e : suc i ≡ i + 1 = omega arith in
    ap (λ (l : List Row). noted n at i (row_cells l)) (drop-at rows i row lt is) ∙ ap (λ (k : ℕ). (row.id, position n (at i)) ∷ noted n at k (row_cells (drop (i + 1) rows))) e

pub rows-end : (n : ℕ) (at : ℕ → Place) (rows : List Row) (i : ℕ) → length rows ≤ i → noted n at i (row_cells (drop i rows)) ≡ []
rows-end n at rows i h = ap (λ (l : List Row). noted n at i (row_cells l)) (drop-end rows i h)

-- ---- deltas

append-thrice : {X : Type 0} (xs ys zs : List X) → (xs ++ ys) ++ zs ≡ xs ++ (ys ++ zs)
append-thrice [] ys zs = refl
append-thrice (x ∷ xs) ys zs = ap (λ l. x ∷ l) (append-thrice xs ys zs)

pub deltas-step : (tables : List Drawn) (n : ℕ) (t : Drawn) → n < length tables → t ≡ get_or tables n t
    → deltas_noted n (drop n tables) ≡ rows_noted n deltas.Second t.l2 ++ (rows_noted n deltas.First t.l1 ++ deltas_noted (n + 1) (drop (n + 1) tables))
deltas-step tables n t lt is =
    let e : suc n ≡ n + 1 = omega arith in
    ap (deltas_noted n) (drop-at tables n t lt is) ∙ ap (λ (k : ℕ). (rows_noted n deltas.Second t.l2 ++ rows_noted n deltas.First t.l1) ++ deltas_noted k (drop (n + 1) tables)) e
    ∙ append-thrice (rows_noted n deltas.Second t.l2) (rows_noted n deltas.First t.l1) (deltas_noted (n + 1) (drop (n + 1) tables))

pub deltas-end : (tables : List Drawn) (n : ℕ) → length tables ≤ n → deltas_noted n (drop n tables) ≡ []
deltas-end tables n h = ap (deltas_noted n) (drop-end tables n h)

-- ---- a part

part-cut : (n : ℕ) (at : ℕ → Place) (rows : List KeyRow) (live : List Bool) (i : ℕ) (row : KeyRow) (mark : Bool) → i < length rows → length live ≡ length rows → row ≡ get_or rows i row → mark ≡ get_or live i mark
    → noted n at i (part_cells (drop i rows) (drop i live)) ≡ cond (not mark) (noted n at (i + 1) (part_cells (drop (i + 1) rows) (drop (i + 1) live))) ((row.id, position n (at i)) ∷ noted n at (i + 1) (part_cells (drop (i + 1) rows) (drop (i + 1) live)))
part-cut n at rows live i row mark lt same is mark_is =
    let e : suc i ≡ i + 1 = omega arith in
    (λ j. noted n at i (part_cells (drop-at rows i row lt is j) (drop-at live i mark (omega (arith, lt, same)) mark_is j)))
    ∙ ap (λ (k : ℕ). cond (not mark) (noted n at k (part_cells (drop (i + 1) rows) (drop (i + 1) live))) ((row.id, position n (at i)) ∷ noted n at k (part_cells (drop (i + 1) rows) (drop (i + 1) live)))) e

pub part-live : (n : ℕ) (at : ℕ → Place) (rows : List KeyRow) (live : List Bool) (i : ℕ) (row : KeyRow) (mark : Bool) → i < length rows → length live ≡ length rows → row ≡ get_or rows i row → mark ≡ get_or live i mark → mark ≡ true
    → noted n at i (part_cells (drop i rows) (drop i live)) ≡ ((row.id, position n (at i)) ∷ []) ++ noted n at (i + 1) (part_cells (drop (i + 1) rows) (drop (i + 1) live))
part-live n at rows live i row mark lt same is mark_is marked = part-cut n at rows live i row mark lt same is mark_is
    ∙ ap (λ (b : Bool). cond (not b) (noted n at (i + 1) (part_cells (drop (i + 1) rows) (drop (i + 1) live))) ((row.id, position n (at i)) ∷ noted n at (i + 1) (part_cells (drop (i + 1) rows) (drop (i + 1) live)))) marked

pub part-dead : (n : ℕ) (at : ℕ → Place) (rows : List KeyRow) (live : List Bool) (i : ℕ) (row : KeyRow) (mark : Bool) → i < length rows → length live ≡ length rows → row ≡ get_or rows i row → mark ≡ get_or live i mark → mark ≡ false
    → noted n at i (part_cells (drop i rows) (drop i live)) ≡ [] ++ noted n at (i + 1) (part_cells (drop (i + 1) rows) (drop (i + 1) live))
part-dead n at rows live i row mark lt same is mark_is unmarked = part-cut n at rows live i row mark lt same is mark_is
    ∙ ap (λ (b : Bool). cond (not b) (noted n at (i + 1) (part_cells (drop (i + 1) rows) (drop (i + 1) live))) ((row.id, position n (at i)) ∷ noted n at (i + 1) (part_cells (drop (i + 1) rows) (drop (i + 1) live)))) unmarked

pub part-end : (n : ℕ) (at : ℕ → Place) (rows : List KeyRow) (live : List Bool) (i : ℕ) → length rows ≤ i → noted n at i (part_cells (drop i rows) (drop i live)) ≡ []
part-end n at rows live i h = ap (λ (l : List KeyRow). noted n at i (part_cells l (drop i live))) (drop-end rows i h)

-- ---- parts

pub parts-step : (n : ℕ) (refs : List PartRef) (parts : List (List KeyRow)) (p : ℕ) (ref : PartRef) (rows : List KeyRow) → p < length refs → p < length parts → ref ≡ get_or refs p ref → rows ≡ get_or parts p rows
    → parts_noted n p (drop p refs) (drop p parts) ≡ part_noted n p rows ref.live ++ parts_noted n (p + 1) (drop (p + 1) refs) (drop (p + 1) parts)
parts-step n refs parts p ref rows lt there is rows_is =
    let e : suc p ≡ p + 1 = omega arith in
    (λ j. parts_noted n p (drop-at refs p ref lt is j) (drop-at parts p rows there rows_is j))
    ∙ ap (λ (k : ℕ). part_noted n p rows ref.live ++ parts_noted n k (drop (p + 1) refs) (drop (p + 1) parts)) e

parts-none : (n p : ℕ) (refs : List PartRef) → parts_noted n p refs [] ≡ []
parts-none n p [] = refl
parts-none n p (ref ∷ refs) = refl

pub parts-end : (n : ℕ) (refs : List PartRef) (parts : List (List KeyRow)) (p : ℕ) → length parts ≤ p → parts_noted n p (drop p refs) (drop p parts) ≡ []
parts-end n refs parts p h = ap (parts_noted n p (drop p refs)) (drop-end parts p h) ∙ parts-none n p (drop p refs)

-- ---- mains

pub mains-step : (tables : List Drawn) (mains : List MainValue) (n : ℕ) (t : Drawn) (main : MainValue) → n < length tables → n < length mains → t ≡ get_or tables n t → main ≡ get_or mains n main
    → mains_noted n (drop n tables) (drop n mains) ≡ parts_noted n 0 t.parts main.parts ++ mains_noted (n + 1) (drop (n + 1) tables) (drop (n + 1) mains)
mains-step tables mains n t main lt there is main_is =
    let e : suc n ≡ n + 1 = omega arith in
    (λ j. mains_noted n (drop-at tables n t lt is j) (drop-at mains n main there main_is j))
    ∙ ap (λ (k : ℕ). parts_noted n 0 t.parts main.parts ++ mains_noted k (drop (n + 1) tables) (drop (n + 1) mains)) e

pub mains-end : (tables : List Drawn) (mains : List MainValue) (n : ℕ) → length tables ≤ n → mains_noted n (drop n tables) (drop n mains) ≡ []
mains-end tables mains n h = ap (λ (l : List Drawn). mains_noted n l (drop n mains)) (drop-end tables n h)
