-- The places of a stage that pass a test, one more looked at.
use Rattle.std.proofs.Common.{◌≡◌, ℕ, zero, suc, ◌+◌, ◌-◌, ◌<◌, ◌≤◌, Bool, true, false, cond, List, [], ◌∷◌, ◌++◌, map, filter, ap, sym, ◌∙◌, arith, refl}
use Rattle.std.specs.List.{range_with_len}
use Rattle.std.proofs.lemmas.List.{append_assoc, append-nil, map-append}
use Rattle.std.proofs.lemmas.List.FromFn.{filter_of_map_range_with_len_more}

map-same : (xs : List ℕ) → map (λ i. i) xs ≡ xs
map-same [] = refl
map-same (x ∷ xs) = ap (λ l. x ∷ l) (map-same xs)

pub filter-range : (t : ℕ → Bool) (n : ℕ) → filter t (range_with_len 0 (n + 1)) ≡ filter t (range_with_len 0 n) ++ cond (t n) (n ∷ []) []
filter-range t n =
    ap (filter t) (sym (map-same (range_with_len 0 (n + 1))))
    ∙ filter_of_map_range_with_len_more t (λ i. i) 0 n n (let e : 0 + n ≡ n = omega arith in e)
    ∙ ap (λ l. filter t l ++ cond (t n) (n ∷ []) []) (map-same (range_with_len 0 n))

-- places that fail are passed over
pub none-between : (t : ℕ → Bool) (from k : ℕ) → ((j : ℕ) → from ≤ j → j < from + k → t j ≡ false) → filter t (range_with_len 0 (from + k)) ≡ filter t (range_with_len 0 from)
none-between t from zero h = let e : from + 0 ≡ from = omega arith in ap (λ n. filter t (range_with_len 0 n)) e
none-between t from (suc k) h =
    let e : from + suc k ≡ from + k + 1 = omega arith in
    ap (λ n. filter t (range_with_len 0 n)) e
    ∙ filter-range t (from + k)
    ∙ ap (λ b. filter t (range_with_len 0 (from + k)) ++ cond b ((from + k) ∷ []) []) (h (from + k) (omega arith) (omega arith))
    ∙ append-nil (filter t (range_with_len 0 (from + k)))
    ∙ none-between t from k (λ j lo hi. h j lo (omega (arith, hi)))

pub passed-over : {X : Type 0} (f : ℕ → X) (t : ℕ → Bool) (from to : ℕ) (out base : List X) → out ≡ base ++ map f (filter t (range_with_len 0 from)) → from ≤ to → ((j : ℕ) → from ≤ j → j < to → t j ≡ false)
    → out ≡ base ++ map f (filter t (range_with_len 0 to))
passed-over f t from to out base so_far le none =
    let all : from + (to - from) ≡ to = omega (arith, le) in
    so_far
    ∙ ap (λ l. base ++ map f l) (sym (none-between t from (to - from) (λ j lo hi. none j lo (omega (arith, hi, all)))) ∙ ap (λ n. filter t (range_with_len 0 n)) all)

module _ {X : Type 0} (f : ℕ → X) (t : ℕ → Bool) (i : ℕ) (out base : List X) (so_far : out ≡ base ++ map f (filter t (range_with_len 0 i))) where
  pub one-found : (x : X) → x ≡ f i → t i ≡ true → out ++ x ∷ [] ≡ base ++ map f (filter t (range_with_len 0 (i + 1)))
  one-found x e h =
      ap (λ y. out ++ y ∷ []) e
      ∙ ap (λ l. l ++ f i ∷ []) so_far
      ∙ append_assoc base (map f (filter t (range_with_len 0 i))) (f i ∷ [])
      ∙ ap (λ l. base ++ l) (sym (
      ap (map f) (filter-range t i ∙ ap (λ b. filter t (range_with_len 0 i) ++ cond b (i ∷ []) []) h)
      ∙ map-append f (filter t (range_with_len 0 i)) (i ∷ [])))

  pub none-found : t i ≡ false → out ≡ base ++ map f (filter t (range_with_len 0 (i + 1)))
  none-found h =
      so_far
      ∙ ap (λ l. base ++ map f l) (sym (
      filter-range t i ∙ ap (λ b. filter t (range_with_len 0 i) ++ cond b (i ∷ []) []) h
      ∙ append-nil (filter t (range_with_len 0 i))))
