-- Rows one behind the other.
use Rattle.std.proofs.Common.{◌≡◌, ℕ, zero, suc, ◌+◌, ◌*◌, List, [], ◌∷◌, ◌++◌, sym, ◌∙◌, ap, append_assoc, arith}
use Rattle.std.specs.Prelude.{decimal}
use Rattle.std.specs.List.{flat_map, range_with_len}
use Rattle.std.proofs.lemmas.List.{flat_map_more, append-nil}
use Rattle.ut_gen.specs.Draws.{advanced}
use Rattle.ut_gen.specs.Rows.{row_text, rows_text}

range-more : (a n : ℕ) → range_with_len a (n + 1) ≡ range_with_len a n ++ (a + n) ∷ []
range-more a zero = let e : a ≡ a + zero = omega arith in ap (λ k. k ∷ []) e
range-more a (suc n) =
    let e : a + 1 + n ≡ a + suc n = omega arith
    in let f : suc n + 1 ≡ suc (n + 1) = omega arith
    in ap (range_with_len a) f
    ∙ ap (λ l. a ∷ l) (range-more (a + 1) n)
    ∙ ap (λ k. a ∷ (range_with_len (a + 1) n ++ k ∷ [])) e

-- one row more
pub rows-more : (x r n : ℕ) → rows_text x r (n + 1) ≡ rows_text x r n ++ 32 ∷ row_text (advanced x (6 * n)) (r + n)
unfolding rows_text
rows-more x r n =
    let e : 0 + n ≡ n = omega arith
    in ap (flat_map (λ k. 32 ∷ row_text (advanced x (6 * k)) (r + k))) (range-more 0 n ∙ ap (λ k. range_with_len 0 n ++ k ∷ []) e)
    ∙ sym (flat_map_more (λ k. 32 ∷ row_text (advanced x (6 * k)) (r + k)) [] (range_with_len 0 n) n)

-- a row behind a space, and no row
pub rows-next : (x r n : ℕ) (out text : List ℕ) → text ≡ out ++ rows_text x r n → (text ++ 32 ∷ []) ++ row_text (advanced x (6 * n)) (r + n) ≡ out ++ rows_text x r (n + 1)
rows-next x r n out text e =
    append_assoc text (32 ∷ []) (row_text (advanced x (6 * n)) (r + n))
    ∙ ap (λ l. l ++ 32 ∷ row_text (advanced x (6 * n)) (r + n)) e
    ∙ append_assoc out (rows_text x r n) (32 ∷ row_text (advanced x (6 * n)) (r + n))
    ∙ ap (λ l. out ++ l) (sym (rows-more x r n))

pub rows-none : (x r : ℕ) (out : List ℕ) → out ≡ out ++ rows_text x r 0
unfolding rows_text
rows-none x r out = sym (append-nil out)

-- four pieces one behind the other, of which the second and the fourth are numbers
pub four_pieces : (o a b o1 o2 o3 o4 : List ℕ) (m n q r : ℕ) → o1 ≡ o ++ a → o2 ≡ o1 ++ decimal m → o3 ≡ o2 ++ b → o4 ≡ o3 ++ decimal n → m ≡ q → n ≡ r → o4 ≡ o ++ (a ++ decimal q ++ b ++ decimal r)
four_pieces o a b o1 o2 o3 o4 m n q r e1 e2 e3 e4 em en =
    let all : o4 ≡ ((o ++ a) ++ decimal m) ++ b ++ decimal n = cc
    in all
    ∙ ap (λ k. ((o ++ a) ++ decimal k) ++ b ++ decimal n) em
    ∙ ap (λ k. ((o ++ a) ++ decimal q) ++ b ++ decimal k) en
    ∙ simp append_assoc
