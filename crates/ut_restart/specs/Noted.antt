-- The positions of an image's rows: those of the deltas, and then the live ones of the parts.
use Rattle.std.specs.Prelude.{ℕ, suc, ◌+◌, ◌≡◌, Bool, false, not, cond, List, [], ◌∷◌, ◌++◌, length, map, Some, nat_eq}
use Rattle.ut_value.specs.declared.value.Row.{Row}
use Rattle.ut_l2.specs.KeyRows.{KeyRow}
use Rattle.ut_main.specs.Parts.{MainValue}
use Rattle.ut_image.specs.declared.drawn.PartRef.{PartRef}
use Rattle.ut_image.specs.declared.drawn.Drawn.{Drawn}
use Rattle.ut_stamps.specs.declared.place.Place.{Place}
use Rattle.ut_stamps.specs.declared.place.Place.TheVariants.{L1, L2, Main}
use Rattle.ut_restart.specs.declared.rows.Position.{Position}
use Rattle.ut_restart.specs.declared.rows.Rows.{Rows}
use Rattle.ut_restart.specs.declared.noting.Delta.{Delta}
use Rattle.ut_restart.specs.declared.noting.Delta.TheVariants as deltas
use Rattle.ut_restart.specs.Rows.{Positions, IsSet, position_in, position}

-- ---- an id and its position

-- an id and where its row stands
abbrev pub Note : Type 0
Note = ℕ × Position

-- an id, and whether its place is nobody's
abbrev pub Cell : Type 0
Cell = ℕ × Bool

-- those of cells that stand from a place of a stage on
abbrev pub noted : ℕ → (ℕ → Place) → ℕ → List Cell → List Note
noted n at i [] = []
noted n at i (c ∷ cells) = cond c.1 (noted n at (suc i) cells) ((c.0, position n (at i)) ∷ noted n at (suc i) cells)

-- ---- of the rows of an image

-- the ids of a delta's rows, each somebody's
abbrev pub row_cells : List Row → List Cell
row_cells rows = map (λ (r : Row). (r.id, false)) rows

-- the ids of a part's rows, by their marks
abbrev pub part_cells : List KeyRow → List Bool → List Cell
part_cells [] marks = []
part_cells (r ∷ rows) [] = []
part_cells (r ∷ rows) (mark ∷ marks) = (r.id, not mark) ∷ part_cells rows marks

-- place i of a delta
abbrev pub place_in : Delta → ℕ → Place
place_in deltas.First i = L1 i
place_in deltas.Second i = L2 i

-- the rows of a delta of table n
abbrev pub rows_noted : ℕ → Delta → List Row → List Note
rows_noted n delta rows = noted n (place_in delta) 0 (row_cells rows)

-- the rows of all tables' deltas, the first table being table n
abbrev pub deltas_noted : ℕ → List Drawn → List Note
deltas_noted n [] = []
deltas_noted n (t ∷ ts) = (rows_noted n deltas.Second t.l2 ++ rows_noted n deltas.First t.l1) ++ deltas_noted (suc n) ts

-- the live rows of part p of table n
abbrev pub part_noted : (n p : ℕ) → List KeyRow → List Bool → List Note
part_noted n p rows marks = noted n (Main p) 0 (part_cells rows marks)

-- the live rows of parts of table n, the first one being part p
abbrev pub parts_noted : (n p : ℕ) → List PartRef → List (List KeyRow) → List Note
parts_noted n p [] parts = []
parts_noted n p (ref ∷ refs) [] = []
parts_noted n p (ref ∷ refs) (rows ∷ parts) = part_noted n p rows ref.live ++ parts_noted n (suc p) refs parts

-- the live rows of all tables' parts, the first table being table n
abbrev pub mains_noted : ℕ → List Drawn → List MainValue → List Note
mains_noted n [] mains = []
mains_noted n (t ∷ ts) [] = []
mains_noted n (t ∷ ts) (main ∷ mains) = parts_noted n 0 t.parts main.parts ++ mains_noted (suc n) ts mains

-- ---- what is noted

-- positions with one more noted
abbrev pub with_note : Positions → Note → Positions
with_note f e q = cond (nat_eq q e.0) (Some e.1) (f q)

-- positions with these noted, in order
abbrev pub with_notes : Positions → List Note → Positions
with_notes f [] = f
with_notes f (e ∷ es) = with_notes (with_note f e) es

-- one id more has its position
pub record HasNoted (old : Rows) (id : ℕ) (at : Position) (new : Rows) : Type 0 where
  pub set : IsSet (position_in old.positions) (position_in new.positions) id (Some at)
  pub load : new.load ≡ old.load + 1
  pub stages : new.stages ≡ old.stages
  pub next : new.next ≡ old.next

-- these have theirs
pub record Noted (old : Rows) (es : List Note) (new : Rows) : Type 0 where
  pub positions : (q : ℕ) → position_in new.positions q ≡ with_notes (position_in old.positions) es q
  pub load : new.load ≡ old.load + length es
  pub stages : new.stages ≡ old.stages
  pub next : new.next ≡ old.next
