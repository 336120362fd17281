-- Rows that values are cut into, one after the other.
use Rattle.std.proofs.Common.{◌≡◌, ℕ, zero, suc, ◌+◌, ◌<◌, ◌≤◌, min, List, [], ◌∷◌, ◌++◌, length, take, drop, refl, sym, ap, ◌∙◌, arith}
use Rattle.ut_value.specs.declared.value.Value.{Value}
use Rattle.ut_value.specs.declared.entry.Op.{Op}
use Rattle.ut_value.specs.declared.entry.Op.TheVariants as ops
use Rattle.ut_plain.specs.Made.{cut, rows_of, inserts}
use Rattle.ut_plain.proofs.CutLemmas.{rows_of-split}

length-cut : (n width : ℕ) (vs : List Value) → length (cut n width vs) ≤ n
length-cut zero width vs = omega arith
length-cut (suc n) width [] = omega arith
length-cut (suc n) width (v ∷ vs) = let rest = length-cut n width (drop width (v ∷ vs)) in omega (arith, rest)

pub length-rows_of : (width : ℕ) (vs : List Value) → length (rows_of width vs) ≤ length vs
length-rows_of width vs = length-cut (length vs) width vs

-- one row fewer
pub row_counted : (width : ℕ) (vs row rest : List Value) → 0 < width → 0 < length vs → row ≡ take (min width (length vs)) vs → rest ≡ drop (min width (length vs)) vs → length (rows_of width vs) ≡ 1 + length (rows_of width rest)
row_counted width vs row rest w h r d = let split = ap length (rows_of-split width vs row rest w h r d) in omega (arith, split)

joined_lists : {A : Type 0} (xs ys zs : List A) → (xs ++ ys) ++ zs ≡ xs ++ (ys ++ zs)
joined_lists [] ys zs = refl
joined_lists (x ∷ xs) ys zs = ap (λ ws. x ∷ ws) (joined_lists xs ys zs)

-- one insert more
pub row_inserted : (width table id : ℕ) (vs row rest values : List Value) (done now all : List Op) → 0 < width → 0 < length vs → row ≡ take (min width (length vs)) vs → rest ≡ drop (min width (length vs)) vs → values ≡ row
    → now ≡ done ++ ops.Insert table id values ∷ [] → done ++ inserts table id (rows_of width vs) ≡ all → now ++ inserts table (id + 1) (rows_of width rest) ≡ all
row_inserted width table id vs row rest values done now all w h r d v n k =
    ap (λ xs. xs ++ inserts table (id + 1) (rows_of width rest)) n ∙ joined_lists done (ops.Insert table id values ∷ []) (inserts table (id + 1) (rows_of width rest))
    ∙ ap (λ x. done ++ ops.Insert table id x ∷ inserts table (id + 1) (rows_of width rest)) v ∙ ap (λ rows. done ++ inserts table id rows) (sym (rows_of-split width vs row rest w h r d)) ∙ k
