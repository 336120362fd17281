-- Laws on masks that are kept from a place on.
use Rattle.std.proofs.Common.{◌≡◌, ℕ, zero, suc, ◌+◌, ◌*◌, ◌<◌, ◌≤◌, Bool, true, false, ◌&&◌, List, [], ◌∷◌, ◌++◌, length, take, drop, get_or, refl, sym, ◌∙◌, ap, arith}
use Rattle.std.specs.Prelude.{replicate, not, set}
use Rattle.std.specs.List.{list_all}
use Rattle.std.specs.Int.Bits.{bit_and}
use Rattle.ut_mask.specs.Mask.{both, kept, kept_from, word_bits, words_bits}
use Rattle.ut_mask.proofs.BitLemmas.{length-word_bits, word_bits-and}

kept-none : (ms : List Bool) → kept ms [] ≡ ms
kept-none [] = refl
kept-none (m ∷ ms) = refl

-- masks of one length: both of them
pub kept-both : (ms bs : List Bool) → length ms ≡ length bs → kept ms bs ≡ both ms bs
kept-both [] bs e = refl
kept-both (m ∷ ms) [] e = absurd (omega (arith, e))
kept-both (m ∷ ms) (b ∷ bs) e = ap (λ (l : List Bool). (m && b) ∷ l) (kept-both ms bs (omega (arith, e)))

length-kept : (ms bs : List Bool) → length (kept ms bs) ≡ length ms
length-kept [] bs = refl
length-kept (m ∷ ms) [] = refl
length-kept (m ∷ ms) (b ∷ bs) = ap suc (length-kept ms bs)

pub length-kept_from : (i : ℕ) (ms bs : List Bool) → length (kept_from i ms bs) ≡ length ms
length-kept_from zero ms bs = length-kept ms bs
length-kept_from (suc i) [] bs = refl
length-kept_from (suc i) (m ∷ ms) bs = ap suc (length-kept_from i ms bs)

kept_from-nil : (i : ℕ) (bs : List Bool) → kept_from i [] bs ≡ []
kept_from-nil zero bs = refl
kept_from-nil (suc i) bs = refl

pub kept_from-none : (i : ℕ) (ms : List Bool) → kept_from i ms [] ≡ ms
kept_from-none zero ms = kept-none ms
kept_from-none (suc i) [] = refl
kept_from-none (suc i) (m ∷ ms) = ap (λ (l : List Bool). m ∷ l) (kept_from-none i ms)

kept-next : (n : ℕ) (ms xs bs : List Bool) → n ≡ length xs → kept_from n (kept ms xs) bs ≡ kept ms (xs ++ bs)
kept-next n [] xs bs e = kept_from-nil n bs
kept-next zero (m ∷ ms) [] bs e = refl
kept-next zero (m ∷ ms) (x ∷ xs) bs e = absurd (omega (arith, e))
kept-next (suc n) (m ∷ ms) [] bs e = absurd (omega (arith, e))
kept-next (suc n) (m ∷ ms) (x ∷ xs) bs e = ap (λ (l : List Bool). (m && x) ∷ l) (kept-next n ms xs bs (omega (arith, e)))

-- kept from where it was kept up to
pub kept_from-next : (n i : ℕ) (ms xs bs : List Bool) → n ≡ i + length xs → kept_from n (kept_from i ms xs) bs ≡ kept_from i ms (xs ++ bs)
kept_from-next n zero ms xs bs e = kept-next n ms xs bs (omega (arith, e))
kept_from-next n (suc i) [] xs bs e = kept_from-nil n bs
kept_from-next zero (suc i) (m ∷ ms) xs bs e = absurd (omega (arith, e))
kept_from-next (suc n) (suc i) (m ∷ ms) xs bs e = ap (λ (l : List Bool). m ∷ l) (kept_from-next n i ms xs bs (omega (arith, e)))

kept-past : (ms xs bs : List Bool) → length ms ≤ length xs → kept ms (xs ++ bs) ≡ kept ms xs
kept-past [] xs bs h = refl
kept-past (m ∷ ms) [] bs h = absurd (omega (arith, h))
kept-past (m ∷ ms) (x ∷ xs) bs h = ap (λ (l : List Bool). (m && x) ∷ l) (kept-past ms xs bs (omega (arith, h)))

-- what is told of places behind the last one
pub kept_from-past : (i : ℕ) (ms xs bs : List Bool) → length ms ≤ i + length xs → kept_from i ms (xs ++ bs) ≡ kept_from i ms xs
kept_from-past zero ms xs bs h = kept-past ms xs bs (omega (arith, h))
kept_from-past (suc i) [] xs bs h = refl
kept_from-past (suc i) (m ∷ ms) xs bs h = ap (λ (l : List Bool). m ∷ l) (kept_from-past i ms xs bs (omega (arith, h)))

and-true : (m : Bool) → (m && true) ≡ m
and-true true = refl
and-true false = refl

kept-true : (n : ℕ) (ms bs : List Bool) → kept ms (replicate n true ++ bs) ≡ kept_from n ms bs
kept-true zero ms bs = refl
kept-true (suc n) [] bs = refl
kept-true (suc n) (m ∷ ms) bs = ap (λ (b : Bool). b ∷ kept ms (replicate n true ++ bs)) (and-true m) ∙ ap (λ (l : List Bool). m ∷ l) (kept-true n ms bs)

-- places that are kept in any case
pub kept_from-true : (k i n : ℕ) (ms bs : List Bool) → k ≡ i + n → kept_from i ms (replicate n true ++ bs) ≡ kept_from k ms bs
kept_from-true k zero n ms bs e = let same : n ≡ k = omega (arith, e) in kept-true n ms bs ∙ ap (λ (j : ℕ). kept_from j ms bs) same
kept_from-true zero (suc i) n ms bs e = absurd (omega (arith, e))
kept_from-true (suc k) (suc i) n [] bs e = refl
kept_from-true (suc k) (suc i) n (m ∷ ms) bs e = ap (λ (l : List Bool). m ∷ l) (kept_from-true k i n ms bs (omega (arith, e)))

-- nothing is cleared where every place is kept
pub kept_from-all_true : (i n : ℕ) (ms : List Bool) → kept_from i ms (replicate n true) ≡ ms
kept_from-all_true zero zero ms = kept-none ms
kept_from-all_true zero (suc n) [] = refl
kept_from-all_true zero (suc n) (m ∷ ms) = ap (λ (b : Bool). b ∷ kept ms (replicate n true)) (and-true m) ∙ ap (λ (l : List Bool). m ∷ l) (kept_from-all_true zero n ms)
kept_from-all_true (suc i) n [] = refl
kept_from-all_true (suc i) n (m ∷ ms) = ap (λ (l : List Bool). m ∷ l) (kept_from-all_true i n ms)

pub kept_from-true_behind : (i n : ℕ) (ms bs : List Bool) → kept_from i ms (bs ++ replicate n true) ≡ kept_from i ms bs
kept_from-true_behind i n ms bs =
    sym (kept_from-next (i + length bs) i ms bs (replicate n true) refl) ∙ kept_from-all_true (i + length bs) n (kept_from i ms bs)

kept-clear : (ms bs : List Bool) → list_all not (take (length bs) ms) ≡ true → kept ms bs ≡ ms
kept-clear [] bs h = refl
kept-clear (m ∷ ms) [] h = refl
kept-clear (true ∷ ms) (b ∷ bs) h = absurd (different h)
  where
    different : false ≡ true → ⊥
    different e = cc
kept-clear (false ∷ ms) (b ∷ bs) h = ap (λ (l : List Bool). false ∷ l) (kept-clear ms bs h)

all-take : (n k : ℕ) (ms : List Bool) → n ≤ k → list_all not (take k ms) ≡ true → list_all not (take n ms) ≡ true
all-take zero k ms le h = refl
all-take (suc n) zero ms le h = absurd (omega (arith, le))
all-take (suc n) (suc k) [] le h = refl
all-take (suc n) (suc k) (true ∷ ms) le h = h
all-take (suc n) (suc k) (false ∷ ms) le h = all-take n k ms (omega (arith, le)) h

-- places none of which stands stay xs they are
pub kept_from-clear : (i n : ℕ) (ms bs : List Bool) → length bs ≤ n → list_all not (take n (drop i ms)) ≡ true → kept_from i ms bs ≡ ms
kept_from-clear zero n ms bs le h = kept-clear ms bs (all-take (length bs) n ms le h)
kept_from-clear (suc i) n [] bs le h = refl
kept_from-clear (suc i) n (m ∷ ms) bs le h = ap (λ (l : List Bool). m ∷ l) (kept_from-clear i n ms bs le h)

pub take-kept_from : (n i : ℕ) (ms bs : List Bool) → take n (kept_from i ms bs) ≡ kept_from i (take n ms) bs
take-kept_from zero i ms bs = sym (kept_from-nil i bs)
take-kept_from (suc n) zero [] bs = refl
take-kept_from (suc n) zero (m ∷ ms) [] = refl
take-kept_from (suc n) zero (m ∷ ms) (b ∷ bs) = ap (λ (l : List Bool). (m && b) ∷ l) (take-kept_from n zero ms bs)
take-kept_from (suc n) (suc i) [] bs = refl
take-kept_from (suc n) (suc i) (m ∷ ms) bs = ap (λ (l : List Bool). m ∷ l) (take-kept_from n i ms bs)

kept_from-false : (i n : ℕ) (bs : List Bool) → kept_from i (replicate n false) bs ≡ replicate n false
kept_from-false zero zero bs = refl
kept_from-false zero (suc n) [] = refl
kept_from-false zero (suc n) (b ∷ bs) = ap (λ (l : List Bool). false ∷ l) (kept_from-false zero n bs)
kept_from-false (suc i) zero bs = refl
kept_from-false (suc i) (suc n) bs = ap (λ (l : List Bool). false ∷ l) (kept_from-false i n bs)

-- what is false behind a place stays so
pub drop-kept_from : (n i r : ℕ) (ms bs : List Bool) → drop n ms ≡ replicate r false → drop n (kept_from i ms bs) ≡ replicate r false
drop-kept_from zero i r ms bs h = ap (λ (l : List Bool). kept_from i l bs) h ∙ kept_from-false i r bs
drop-kept_from (suc n) zero r [] bs h = h
drop-kept_from (suc n) zero r (m ∷ ms) [] h = h
drop-kept_from (suc n) zero r (m ∷ ms) (b ∷ bs) h = drop-kept_from n zero r ms bs h
drop-kept_from (suc n) (suc i) r [] bs h = h
drop-kept_from (suc n) (suc i) r (m ∷ ms) bs h = drop-kept_from n i r ms bs h

kept-front : (xs ys bs : List Bool) → length xs ≡ length bs → kept (xs ++ ys) bs ≡ both xs bs ++ ys
kept-front [] ys [] e = kept-none ys
kept-front [] ys (b ∷ bs) e = absurd (omega (arith, e))
kept-front (x ∷ xs) ys [] e = absurd (omega (arith, e))
kept-front (x ∷ xs) ys (b ∷ bs) e = ap (λ (l : List Bool). (x && b) ∷ l) (kept-front xs ys bs (omega (arith, e)))

kept_from-behind : (k i : ℕ) (xs ys bs : List Bool) → k ≡ length xs + i → kept_from k (xs ++ ys) bs ≡ xs ++ kept_from i ys bs
kept_from-behind k i [] ys bs e = let same : k ≡ i = omega (arith, e) in ap (λ (j : ℕ). kept_from j ys bs) same
kept_from-behind zero i (x ∷ xs) ys bs e = absurd (omega (arith, e))
kept_from-behind (suc k) i (x ∷ xs) ys bs e = ap (λ (l : List Bool). x ∷ l) (kept_from-behind k i xs ys bs (omega (arith, e)))

-- one word among words is kept only where another has digits
pub words_bits-set : (n k b : ℕ) (ws : List ℕ) → n ≡ 64 * k → k < length ws → words_bits (set ws k (bit_and (get_or ws k 0) b)) ≡ kept_from n (words_bits ws) (word_bits b)
words_bits-set n k b [] e h = absurd (omega (arith, h))
words_bits-set n zero b (w ∷ ws) e h =
    let none : n ≡ 0 = omega (arith, e) in
    ap (λ (l : List Bool). l ++ words_bits ws) (word_bits-and w b)
    ∙ sym (kept-front (word_bits w) (words_bits ws) (word_bits b) (length-word_bits w ∙ sym (length-word_bits b)))
    ∙ ap (λ (j : ℕ). kept_from j (word_bits w ++ words_bits ws) (word_bits b)) (sym none)
words_bits-set n (suc k) b (w ∷ ws) e h =
    ap (λ (l : List Bool). word_bits w ++ l) (words_bits-set (64 * k) k b ws refl (omega (arith, h)))
    ∙ sym (kept_from-behind n (64 * k) (word_bits w) (words_bits ws) (word_bits b) (omega (arith, e, length-word_bits w)))
