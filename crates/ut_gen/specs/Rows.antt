-- The texts of the lines that are drawn. Each is a function of the state before its first draw.
use Rattle.std.specs.Prelude.{ℕ, zero, suc, ◌+◌, ◌*◌, ◌%◌, List, ◌∷◌, ◌++◌, codes, decimal, flat_map}
use Rattle.std.specs.List.{range_with_len}
use Rattle.ut_gen.specs.Draws.{advanced, draw}

-- the regions, by number
abbrev pub region : ℕ → List ℕ
region zero = codes "east"
region (suc zero) = codes "north"
region (suc (suc zero)) = codes "south"
region _ = codes "west"

-- what stands behind the id of a row; the note is empty
abbrev pub sale_text : ℕ → ℕ → ℕ → ℕ → ℕ → ℕ → List ℕ
sale_text day place product quantity price paid =
    decimal day ++ codes " '" ++ region place ++ codes "' 'p" ++ decimal product ++ codes "' " ++ decimal quantity
    ++ codes " " ++ decimal price ++ codes " " ++ decimal paid ++ codes " ''"

-- row number r, from 0: its id is r + 1, and six draws give the rest
abbrev pub row_text : ℕ → ℕ → List ℕ
row_text x r =
    decimal (r + 1) ++ codes " "
    ++ sale_text (1 + draw x 0 % 365) (draw x 1 % 4) (draw x 2 % 500) (1 + draw x 3 % 20) (100 + draw x 4 % 9900) (draw x 5 % 2)

-- so many rows from number r on, each behind a space; a row makes six draws
unfoldable pub rows_text : ℕ → ℕ → ℕ → List ℕ
rows_text x r n = flat_map (λ k. 32 ∷ row_text (advanced x (6 * k)) (r + k)) (range_with_len 0 n)

-- 200 rows at once, from number r on
abbrev pub bulk_line : ℕ → ℕ → List ℕ
bulk_line x r = codes "1 bulk sales" ++ rows_text x r 200

-- one row, number r
abbrev pub insert_line : ℕ → ℕ → List ℕ
insert_line x r = codes "1 insert sales " ++ row_text x r

-- a new quantity for one of so many rows
abbrev pub update_line : ℕ → ℕ → List ℕ
update_line x rows =
    codes "1 update sales set qty " ++ decimal (1 + draw x 0 % 20) ++ codes " where id = " ++ decimal (1 + draw x 1 % rows)
