-- How long a piece is, by its quotes.
use Rattle.std.proofs.Common.{ℕ, zero, suc, ◌≡◌, ◌+◌, ◌<◌, Bool, true, false, cond, not, ◌&&◌, List, [], ◌∷◌, length, drop, get_or, refl, ap, ◌∙◌, sym, arith, None, Some}
use Rattle.std.proofs.lemmas.Grind.{common_steps}
use Rattle.std.proofs.lemmas.List.{drop_all}
use Rattle.std.specs.Prelude.{nat_eq}
use Rattle.memchr.specs.Find.{IsFirstByte, is_byte}
use Rattle.ut_script.specs.Words.{piece_len}
use Rattle.ut_script.proofs.LiteralLemmas.{next_byte}

-- a byte inside of quotes
inside-step : (b : ℕ) (xs : List ℕ) → (nat_eq b 39 ≡ true → ⊥) → piece_len true (b ∷ xs) ≡ suc (piece_len true xs)
inside-step b xs h = by (nat_eq b 32) (nat_eq b 39) h
  where
    by : (t q : Bool) → (q ≡ true → ⊥) → cond (t && not true) 0 (suc (piece_len (cond q (not true) true) xs)) ≡ suc (piece_len true xs)
    by true true h = absurd (h refl)
    by false true h = absurd (h refl)
    by true false h = refl
    by false false h = refl

no-quote : (xs : List ℕ) → ((k : ℕ) → k < length xs → nat_eq (get_or xs k 0) 39 ≡ true → ⊥) → piece_len true xs ≡ length xs
no-quote [] h = refl
no-quote (b ∷ xs) h = inside-step b xs (h 0 (omega arith)) ∙ ap suc (no-quote xs (λ k lt e. h (suc k) (omega arith) e))

to-quote : (xs : List ℕ) (n : ℕ) → n < length xs → ((k : ℕ) → k < n → nat_eq (get_or xs k 0) 39 ≡ true → ⊥) → get_or xs n 0 ≡ 39 → piece_len true xs ≡ suc (n + piece_len false (drop (suc n) xs))
to-quote [] n lt h e = absurd (omega (arith, lt))
to-quote (b ∷ xs) zero lt h e = let p : suc (piece_len false xs) ≡ suc (0 + piece_len false xs) = omega arith in ap (λ (x : ℕ). piece_len true (x ∷ xs)) e ∙ p
to-quote (b ∷ xs) (suc n) lt h e =
    let p : suc (suc (n + piece_len false (drop (suc n) xs))) ≡ suc (suc n + piece_len false (drop (suc n) xs)) = omega arith in
    inside-step b xs (h 0 (omega arith)) ∙ ap suc (to-quote xs n (omega (arith, lt)) (λ k l f. h (suc k) (omega (arith, l)) f) e) ∙ p

-- how far a quote goes
pub quoted : (xs : List ℕ) (n : ℕ) → IsFirstByte (is_byte 39) xs (Some n) → piece_len true xs ≡ n + 1 + piece_len false (drop (n + 1) xs)
quoted xs n h =
    let low : n < length xs = h.0.high in
    let quote : get_or xs n 0 ≡ 39 = grind (arith, common_steps, h.1) in
    let m : suc n ≡ n + 1 = omega arith in
    let p : suc (n + piece_len false (drop (n + 1) xs)) ≡ n + 1 + piece_len false (drop (n + 1) xs) = omega arith in
    to-quote xs n low (λ k lt e. h.0.before k (omega arith) lt e) quote ∙ ap (λ (k : ℕ). suc (n + piece_len false (drop k xs))) m ∙ p

pub unquoted-rest : (xs : List ℕ) → IsFirstByte (is_byte 39) xs None → piece_len true xs ≡ length xs + piece_len false (drop (length xs) xs)
unquoted-rest xs h =
    let p : length xs ≡ length xs + 0 = omega arith in
    no-quote xs (λ k lt e. h k (omega arith) lt e) ∙ p ∙ ap (λ (ys : List ℕ). length xs + piece_len false ys) (sym (drop_all (length xs) xs (omega arith)))
