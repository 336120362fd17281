-- The rows of a store's tables, one table more at a time.
use Rattle.std.proofs.Common.{ℕ, zero, suc, ◌+◌, ◌≡◌, List, [], ◌∷◌, ◌++◌, take, Some, refl, sym, ap, ◌∙◌, subst, arith, append_assoc}
use Rattle.std.specs.Prelude.{sum_by}
use Rattle.std.proofs.lemmas.List.Sums.{sum_by-append}
use Rattle.ut_plain.specs.declared.table.Table.{Table}
use Rattle.ut_plain.specs.State.{State}
use Rattle.ut_engine.specs.Tables.{name_at}
use Rattle.ut_app.specs.Figures.{rows_named}

-- the rows of the first so many tables
abbrev pub rows_upto : State → ℕ → ℕ
rows_upto s place = sum_by (λ (t : Table). rows_named s t.name) (take place s.tables)

-- one table more is the one at the place
next_table : (tables : List Table) (place : ℕ) (name : List ℕ) → name_at tables place ≡ Some name → (t : Table) × (take (suc place) tables ≡ take place tables ++ t ∷ []) × (t.name ≡ name)
next_table [] place name e = cc
next_table (t ∷ tables) zero name e = let same : t.name ≡ name = cc in (t, refl, same)
next_table (t ∷ tables) (suc place) name e = let next = next_table tables place name e in (next.0, ap (λ (ts : List Table). t ∷ ts) next.1, next.2)

more_by : (s : State) (place : ℕ) (name : List ℕ) → name_at s.tables place ≡ Some name → rows_upto s (suc place) ≡ rows_upto s place + rows_named s name
more_by s place name e =
    let next = next_table s.tables place name e in
    let f : Table → ℕ = λ (u : Table). rows_named s u.name in
    let same : rows_named s next.0.name ≡ rows_named s name = ap (λ (n : List ℕ). rows_named s n) next.2 in
    let one : sum_by f (next.0 ∷ []) ≡ rows_named s name = omega (arith, same) in
    ap (λ (ts : List Table). sum_by f ts) next.1 ∙ sum_by-append f (take place s.tables) (next.0 ∷ []) ∙ ap (λ (n : ℕ). rows_upto s place + n) one

pub rows-more : (s : State) (place rows more sum : ℕ) (name : List ℕ) → name_at s.tables place ≡ Some name → rows ≡ rows_upto s place → more ≡ rows_named s name → sum ≡ rows + more → sum ≡ rows_upto s (place + 1)
rows-more s place rows more sum name e r m is =
    let next = more_by s place name e in
    let all : sum ≡ rows_upto s (suc place) = omega (arith, next, r, m, is) in
    let same : suc place ≡ place + 1 = omega arith in
    subst (λ (k : ℕ). sum ≡ rows_upto s k) same all

-- ---- the line, piece by piece

-- two pieces more
piece : (old put a b t u : List ℕ) → t ≡ old ++ put → u ≡ t ++ (a ++ b) → u ≡ old ++ ((put ++ a) ++ b)
piece old put a b t u e f = f ∙ ap (λ (xs : List ℕ). xs ++ (a ++ b)) e ∙ append_assoc old put (a ++ b) ∙ ap (λ (xs : List ℕ). old ++ xs) (sym (append_assoc put a b))

pub line-put : (old a1 b1 a2 b2 a3 b3 a4 b4 a5 b5 end t1 t2 t3 t4 t5 t6 : List ℕ) → t1 ≡ old ++ (a1 ++ b1) → t2 ≡ t1 ++ (a2 ++ b2) → t3 ≡ t2 ++ (a3 ++ b3) → t4 ≡ t3 ++ (a4 ++ b4) → t5 ≡ t4 ++ (a5 ++ b5) → t6 ≡ t5 ++ end
    → t6 ≡ old ++ ((((((((((a1 ++ b1) ++ a2) ++ b2) ++ a3) ++ b3) ++ a4) ++ b4) ++ a5) ++ b5) ++ end)
line-put old a1 b1 a2 b2 a3 b3 a4 b4 a5 b5 end t1 t2 t3 t4 t5 t6 e1 e2 e3 e4 e5 e6 =
    let s2 = piece old (a1 ++ b1) a2 b2 t1 t2 e1 e2 in
    let s3 = piece old (((a1 ++ b1) ++ a2) ++ b2) a3 b3 t2 t3 s2 e3 in
    let s4 = piece old (((((a1 ++ b1) ++ a2) ++ b2) ++ a3) ++ b3) a4 b4 t3 t4 s3 e4 in
    let put = ((((((a1 ++ b1) ++ a2) ++ b2) ++ a3) ++ b3) ++ a4) ++ b4 in
    let s5 = piece old put a5 b5 t4 t5 s4 e5 in
    e6 ∙ ap (λ (xs : List ℕ). xs ++ end) s5 ∙ append_assoc old ((put ++ a5) ++ b5) end
