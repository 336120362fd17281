-- Keys in first-seen order, and their places.
use Rattle.std.proofs.Common.{◌≡◌, ℕ, suc, ◌+◌, ◌<◌, ◌≤◌, Bool, true, false, cond, ◌||◌, ◌&&◌, not, List, [], ◌∷◌, ◌++◌, length, get_or, if◌then◌else◌, fold, ap, sym, ◌∙◌, arith, refl}
use Rattle.std.specs.List.{list_any, position_or_len}
use Rattle.std.specs.Cmp.Lexicographic.{same_text}
use Rattle.std.proofs.lemmas.Bool.{eq-eqb}
use Rattle.std.proofs.lemmas.List.{length-append}
use Rattle.std.proofs.lemmas.List.Folds.{list_any-append}
use Rattle.std.proofs.lemmas.List.Sums.{fold-append}
use Rattle.ut_unsorted.specs.FirstSeen.{key_eq, note, first_seen}

pub found-within : {A : Type 0} (t : A → Bool) (xs : List A) → list_any t xs ≡ true → position_or_len t xs < length xs
found-within t [] h = cc
found-within t (x ∷ xs) h = by (found-within t xs) (t x) h
  where
    by : (list_any t xs ≡ true → position_or_len t xs < length xs) → (b : Bool) → (b || list_any t xs) ≡ true → cond (not b) (1 + position_or_len t xs) 0 < suc (length xs)
    by rec true e = omega arith
    by rec false e = let r = rec e in omega arith

pub absent-length : {A : Type 0} (t : A → Bool) (xs : List A) → list_any t xs ≡ false → position_or_len t xs ≡ length xs
absent-length t [] h = refl
absent-length t (x ∷ xs) h = by (absent-length t xs) (t x) h
  where
    by : (list_any t xs ≡ false → position_or_len t xs ≡ length xs) → (b : Bool) → (b || list_any t xs) ≡ false → cond (not b) (1 + position_or_len t xs) 0 ≡ suc (length xs)
    by rec true e = cc
    by rec false e = let r = rec e in omega arith

pub place-append : {A : Type 0} (t : A → Bool) (xs : List A) (y : A) → position_or_len t xs < length xs → position_or_len t (xs ++ y ∷ []) ≡ position_or_len t xs
place-append t [] y h = absurd (omega (arith, h))
place-append t (x ∷ xs) y h = by (place-append t xs y) (t x) h
  where
    by : (position_or_len t xs < length xs → position_or_len t (xs ++ y ∷ []) ≡ position_or_len t xs) → (b : Bool) → cond (not b) (1 + position_or_len t xs) 0 < suc (length xs) → cond (not b) (1 + position_or_len t (xs ++ y ∷ [])) 0 ≡ cond (not b) (1 + position_or_len t xs) 0
    by rec true e = refl
    by rec false e = let lt : position_or_len t xs < length xs = omega arith in ap (λ n. 1 + n) (rec lt)

pub place-last : {A : Type 0} (t : A → Bool) (xs : List A) (y : A) → list_any t xs ≡ false → t y ≡ true → position_or_len t (xs ++ y ∷ []) ≡ length xs
place-last t [] y h e = ap (λ b. cond (not b) (1 + 0) 0) e
place-last t (x ∷ xs) y h e = by (λ f. place-last t xs y f e) (t x) h
  where
    by : (list_any t xs ≡ false → position_or_len t (xs ++ y ∷ []) ≡ length xs) → (b : Bool) → (b || list_any t xs) ≡ false → cond (not b) (1 + position_or_len t (xs ++ y ∷ [])) 0 ≡ suc (length xs)
    by rec true f = cc
    by rec false f = let r = rec f in omega arith

pub key_refl : (k : List ℕ) → key_eq k k ≡ true
key_refl [] = refl
key_refl (x ∷ xs) = ap (λ b. b && key_eq xs xs) (eq-eqb x x refl) ∙ key_refl xs

pub same_key : (a b : List ℕ) → key_eq a b ≡ true → a ≡ b
same_key a b e = same_text a b (sym e)

pub first_seen-append : (cells : List (List ℕ)) (k : List ℕ) → first_seen (cells ++ k ∷ []) ≡ note (first_seen cells) k
first_seen-append cells k = fold-append note [] cells (k ∷ [])

pub length-note : (ks : List (List ℕ)) (k : List ℕ) → length (note ks k) ≤ length ks + 1
length-note ks k = by (list_any (key_eq k) ks)
  where
    by : (b : Bool) → length (if b then ks else ks ++ k ∷ []) ≤ length ks + 1
    by true = omega arith
    by false = omega (arith, length-append ks (k ∷ []))

pub length-fold : (ks cells : List (List ℕ)) → length (fold note ks cells) ≤ length ks + length cells
length-fold ks [] = omega arith
length-fold ks (k ∷ cells) = let r = length-fold (note ks k) cells in let n = length-note ks k in omega arith

or_false : (a : Bool) → a ≡ (a || false)
or_false true = refl
or_false false = refl

pub any-note : (q : List ℕ) (ks : List (List ℕ)) (k : List ℕ) → list_any (key_eq q) (note ks k) ≡ (list_any (key_eq q) ks || key_eq q k)
any-note q ks k = by (list_any (key_eq k) ks) refl
  where
    same : list_any (key_eq k) ks ≡ true → (b : Bool) → key_eq q k ≡ b → list_any (key_eq q) ks ≡ (list_any (key_eq q) ks || b)
    same e true f = let a : list_any (key_eq q) ks ≡ true = ap (λ x. list_any (key_eq x) ks) (same_key q k f) ∙ e in a ∙ sym (ap (λ x. x || true) a)
    same e false f = or_false (list_any (key_eq q) ks)

    by : (b : Bool) → list_any (key_eq k) ks ≡ b → list_any (key_eq q) (if b then ks else ks ++ k ∷ []) ≡ (list_any (key_eq q) ks || key_eq q k)
    by true e = same e (key_eq q k) refl
    by false e = list_any-append (key_eq q) ks (k ∷ []) ∙ ap (λ x. list_any (key_eq q) ks || x) (sym (or_false (key_eq q k)))

or_assoc : (a b c : Bool) → ((a || b) || c) ≡ (a || (b || c))
or_assoc true b c = refl
or_assoc false b c = refl

pub any-fold : (q : List ℕ) (ks cells : List (List ℕ)) → list_any (key_eq q) (fold note ks cells) ≡ (list_any (key_eq q) ks || list_any (key_eq q) cells)
any-fold q ks [] = or_false (list_any (key_eq q) ks)
any-fold q ks (k ∷ cells) = any-fold q (note ks k) cells ∙ ap (λ x. x || list_any (key_eq q) cells) (any-note q ks k) ∙ or_assoc (list_any (key_eq q) ks) (key_eq q k) (list_any (key_eq q) cells)

-- the key at the place where a key is found
pub at-place : (q : List ℕ) (ks : List (List ℕ)) → list_any (key_eq q) ks ≡ true → q ≡ get_or ks (position_or_len (key_eq q) ks) []
at-place q [] h = cc
at-place q (k ∷ ks) h = by (at-place q ks) (key_eq q k) refl h
  where
    by : (list_any (key_eq q) ks ≡ true → q ≡ get_or ks (position_or_len (key_eq q) ks) []) → (b : Bool) → key_eq q k ≡ b → (b || list_any (key_eq q) ks) ≡ true → q ≡ get_or (k ∷ ks) (cond (not b) (1 + position_or_len (key_eq q) ks) 0) []
    by rec true e f = same_key q k e
    by rec false e f = rec f ∙ ap (λ n. get_or (k ∷ ks) n []) (let s : suc (position_or_len (key_eq q) ks) ≡ 1 + position_or_len (key_eq q) ks = omega arith in s)

pub place-less : {A : Type 0} (t : A → Bool) (xs : List A) (y : A) → position_or_len t (xs ++ y ∷ []) < length xs → position_or_len t xs ≡ position_or_len t (xs ++ y ∷ [])
place-less t [] y h = absurd (omega (arith, h))
place-less t (x ∷ xs) y h = by (place-less t xs y) (t x) h
  where
    by : (position_or_len t (xs ++ y ∷ []) < length xs → position_or_len t xs ≡ position_or_len t (xs ++ y ∷ [])) → (b : Bool) → cond (not b) (1 + position_or_len t (xs ++ y ∷ [])) 0 < suc (length xs) → cond (not b) (1 + position_or_len t xs) 0 ≡ cond (not b) (1 + position_or_len t (xs ++ y ∷ [])) 0
    by rec true e = refl
    by rec false e = let lt : position_or_len t (xs ++ y ∷ []) < length xs = omega arith in ap (λ n. 1 + n) (rec lt)
