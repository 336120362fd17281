-- The generator's script, as a function of its seed and its size.
use Rattle.std.specs.Prelude.{ℕ, ◌+◌, ◌*◌, List, [], ◌∷◌, ◌++◌, codes, map}
use Rattle.std.specs.List.{range_with_len}
use Rattle.ut_gen.specs.Draws.{advanced}
use Rattle.ut_gen.specs.Rows.{bulk_line, insert_line, update_line}

-- the tables are created, and the one of regions is filled
abbrev pub opening : List (List ℕ)
opening =
    codes "1 create sales id:int day:int region:text product:text qty:int price:int paid:int note:text"
    ∷ codes "1 create region name:text zone:int"
    ∷ codes "1 bulk region 'east' 1 'north' 2 'south' 3 'west' 4"
    ∷ []

-- a merge of the second delta into main, of a kind, begins
abbrev pub begins : List ℕ → List (List ℕ)
begins kind = (codes "0 merge begin sales " ++ kind) ∷ []

-- the merge ends
abbrev pub ends : List (List ℕ)
ends = codes "0 merge end" ∷ []

-- a savepoint, from its beginning to its flip
abbrev pub saves : List (List ℕ)
saves = codes "0 save begin" ∷ codes "0 save step 1048576" ∷ codes "0 save seal" ∷ codes "0 save flip" ∷ []

-- all rows of the first delta move into the second
abbrev pub moves : List (List ℕ)
moves = codes "0 merge l1 sales 1048576" ∷ []

-- so many bulks of 200 rows, the first rows of the script
abbrev pub bulks : ℕ → ℕ → List (List ℕ)
bulks seed n = map (λ k. bulk_line (advanced seed (6 * (200 * k))) (200 * k)) (range_with_len 0 n)

-- so many inserts, from row number r on, with six draws for each row before
abbrev pub inserts : ℕ → ℕ → ℕ → List (List ℕ)
inserts seed r n = map (λ k. insert_line (advanced seed (6 * (r + k))) (r + k)) (range_with_len 0 n)

-- so many updates of so many rows, with six draws for each row before, and two for each update before
abbrev pub updates : ℕ → ℕ → ℕ → List (List ℕ)
updates seed rows n = map (λ k. update_line (advanced seed (6 * rows + 2 * k)) rows) (range_with_len 0 n)

-- questions at the end
abbrev pub asks : List (List ℕ)
asks =
    codes "1 group sales region sum qty"
    ∷ codes "1 join sales region region name"
    ∷ codes "1 count sales"
    ∷ codes "1 sum sales id"
    ∷ []

-- the lines of the script
unfoldable pub script : ℕ → ℕ → List (List ℕ)
script seed size =
    opening
    ++ bulks seed size
    ++ begins (codes "classic")
    ++ ends
    ++ saves
    ++ inserts seed (200 * size) (10 * size)
    ++ moves
    ++ inserts seed (210 * size) (10 * size)
    ++ moves
    ++ begins (codes "partial")
    ++ updates seed (220 * size) (3 * size)
    ++ ends
    ++ moves
    ++ begins (codes "partial")
    ++ ends
    ++ saves
    ++ begins (codes "resort")
    ++ ends
    ++ asks
