-- What stands at a place of a list.
use Rattle.std.proofs.Common.{ℕ, zero, suc, ◌+◌, ◌<◌, ◌≤◌, ◌≡◌, ◌≢◌, ◌⊎◌, inl, inr, List, [], ◌∷◌, ◌++◌, length, map, take, drop, get_or, None, Some, refl, sym, ap, ◌∙◌, arith, slice_get, slice_set, unwrap_or}

pub none_some : {X : Type 0} (x : X) → None ≡ Some x → ⊥
none_some x h = cc

pub some_same : {X : Type 0} (x y : X) → Some x ≡ Some y → x ≡ y
some_same x y h = ap (λ o. unwrap_or o x) h

pub get-within : {X : Type 0} (xs : List X) (i : ℕ) (x : X) → slice_get xs i ≡ Some x → i < length xs
get-within [] i x h = absurd (none_some x h)
get-within (y ∷ xs) zero x h = omega arith
get-within (y ∷ xs) (suc i) x h = omega (arith, get-within xs i x h)

pub get-front : {X : Type 0} (xs ys : List X) (i : ℕ) → i < length xs → slice_get (xs ++ ys) i ≡ slice_get xs i
get-front [] ys i h = absurd (omega arith)
get-front (x ∷ xs) ys zero h = refl
get-front (x ∷ xs) ys (suc i) h = get-front xs ys i (omega arith)

pub get-take : {X : Type 0} (n : ℕ) (xs : List X) (i : ℕ) → i < n → slice_get (take n xs) i ≡ slice_get xs i
get-take zero xs i h = absurd (omega arith)
get-take (suc n) [] i h = refl
get-take (suc n) (x ∷ xs) zero h = refl
get-take (suc n) (x ∷ xs) (suc i) h = get-take n xs i (omega arith)

pub length-taken : {X : Type 0} (n : ℕ) (xs : List X) → n ≤ length xs → length (take n xs) ≡ n
length-taken zero xs h = refl
length-taken (suc n) [] h = absurd (omega arith)
length-taken (suc n) (x ∷ xs) h = ap suc (length-taken n xs (omega arith))

-- what stands in a list with one more, from its end on
pub get-last : {X : Type 0} (xs : List X) (x y : X) (i : ℕ) → length xs ≤ i → slice_get (xs ++ x ∷ []) i ≡ Some y → (i ≡ length xs) × (x ≡ y)
get-last [] x y zero le h = (refl, some_same x y h)
get-last [] x y (suc i) le h = absurd (none_some y h)
get-last (z ∷ xs) x y zero le h = absurd (omega arith)
get-last (z ∷ xs) x y (suc i) le h = let r = get-last xs x y i (omega arith) h in (ap suc r.0, r.1)

pub get-pushed : {X : Type 0} (xs : List X) (x : X) → slice_get (xs ++ x ∷ []) (length xs) ≡ Some x
get-pushed [] x = refl
get-pushed (y ∷ xs) x = get-pushed xs x

pub get-map : {X Y : Type 0} (f : X → Y) (xs : List X) (i : ℕ) (x : X) → slice_get xs i ≡ Some x → slice_get (map f xs) i ≡ Some (f x)
get-map f [] i x h = absurd (none_some x h)
get-map f (y ∷ xs) zero x h = ap (λ o. Some (f (unwrap_or o y))) h
get-map f (y ∷ xs) (suc i) x h = get-map f xs i x h

-- what stands in a mapped list comes of what stands in the list
pub get-mapped : {X Y : Type 0} (f : X → Y) (xs : List X) (i : ℕ) (y : Y) → slice_get (map f xs) i ≡ Some y → (x : X) × (slice_get xs i ≡ Some x) × (f x ≡ y)
get-mapped f [] i y h = absurd (none_some y h)
get-mapped f (x ∷ xs) zero y h = (x, refl, some_same (f x) y h)
get-mapped f (x ∷ xs) (suc i) y h = get-mapped f xs i y h

pub get_or-is : {X : Type 0} (xs : List X) (i : ℕ) (x d : X) → slice_get xs i ≡ Some x → get_or xs i d ≡ x
get_or-is [] i x d h = absurd (none_some x h)
get_or-is (y ∷ xs) zero x d h = some_same y x h
get_or-is (y ∷ xs) (suc i) x d h = get_or-is xs i x d h

pub get-behind : {X : Type 0} (xs ys : List X) (i : ℕ) → slice_get (xs ++ ys) (length xs + i) ≡ slice_get ys i
get-behind [] ys i = let e : 0 + i ≡ i = omega arith in ap (slice_get ys) e
get-behind (x ∷ xs) ys i = let e : length (x ∷ xs) + i ≡ suc (length xs + i) = omega arith in ap (λ k. slice_get ((x ∷ xs) ++ ys) k) e ∙ get-behind xs ys i

-- what stands in two lists end to end stands in one of them
pub split_get : {X : Type 0} (xs ys : List X) (k : ℕ) (x : X) → slice_get (xs ++ ys) k ≡ Some x → (slice_get xs k ≡ Some x) ⊎ ((m : ℕ) × (k ≡ length xs + m) × (slice_get ys m ≡ Some x))
split_get [] ys k x h = inr (k, omega arith, h)
split_get (y ∷ xs) ys zero x h = inl h
split_get (y ∷ xs) ys (suc k) x h = elim (split_get xs ys k x h) [ inl a ↦ inl a | inr b ↦ inr (b.0, omega (arith, b.1), b.2) ]

pub get-there : {X : Type 0} (xs : List X) (i : ℕ) → i < length xs → (x : X) × (slice_get xs i ≡ Some x)
get-there [] i h = absurd (omega arith)
get-there (x ∷ xs) zero h = (x, refl)
get-there (x ∷ xs) (suc i) h = get-there xs i (omega arith)

pub get-drop : {X : Type 0} (n : ℕ) (xs : List X) (i : ℕ) → slice_get (drop n xs) i ≡ slice_get xs (n + i)
get-drop zero xs i = let e : i ≡ 0 + i = omega arith in ap (slice_get xs) e
get-drop (suc n) [] i = refl
get-drop (suc n) (x ∷ xs) i = let e : suc (n + i) ≡ suc n + i = omega arith in get-drop n xs i ∙ ap (λ k. slice_get (x ∷ xs) k) e

-- lists of lists of the same lengths
pub same_size : {X Y : Type 0} (xs : List (List X)) (ys : List (List Y)) (g : ℕ) (x : List X) → map length xs ≡ map length ys → slice_get xs g ≡ Some x → (y : List Y) × (slice_get ys g ≡ Some y) × (length y ≡ length x)
same_size xs ys g x same at = get-mapped length ys g (length x) (ap (λ (l : List ℕ). slice_get l g) (sym same) ∙ get-map length xs g x at)

pub get-set_same : {X : Type 0} (xs : List X) (n : ℕ) (x : X) → n < length xs → slice_get (slice_set xs n x) n ≡ Some x
get-set_same [] n x h = absurd (omega arith)
get-set_same (y ∷ xs) zero x h = refl
get-set_same (y ∷ xs) (suc n) x h = get-set_same xs n x (omega arith)

pub get-set_other : {X : Type 0} (xs : List X) (n m : ℕ) (x : X) → m ≢ n → slice_get (slice_set xs n x) m ≡ slice_get xs m
get-set_other [] n m x h = refl
get-set_other (y ∷ xs) zero zero x h = absurd (h refl)
get-set_other (y ∷ xs) zero (suc m) x h = refl
get-set_other (y ∷ xs) (suc n) zero x h = refl
get-set_other (y ∷ xs) (suc n) (suc m) x h = get-set_other xs n m x (λ same. h (ap suc same))

-- what stands in a list with one more
pub data InPushed {X : Type 0} (xs : List X) (x : X) (i : ℕ) (y : X) : Type 0 where
  Last : i ≡ length xs → y ≡ x → InPushed xs x i y
  Before : slice_get xs i ≡ Some y → InPushed xs x i y

pub in_pushed : {X : Type 0} (xs : List X) (x : X) (i : ℕ) (y : X) → slice_get (xs ++ x ∷ []) i ≡ Some y → InPushed xs x i y
in_pushed [] x zero y h = Last refl (sym (some_same x y h))
in_pushed [] x (suc i) y h = absurd (none_some y h)
in_pushed (z ∷ xs) x zero y h = Before h
in_pushed (z ∷ xs) x (suc i) y h = by (in_pushed xs x i y h)
  where
    by : InPushed xs x i y → InPushed (z ∷ xs) x (suc i) y
    by (Last at is) = Last (ap suc at) is
    by (Before is) = Before is

pub get-appended : {X : Type 0} (xs ys : List X) (i : ℕ) (x : X) → slice_get xs i ≡ Some x → slice_get (xs ++ ys) i ≡ Some x
get-appended [] ys i x h = absurd (none_some x h)
get-appended (y ∷ xs) ys zero x h = h
get-appended (y ∷ xs) ys (suc i) x h = get-appended xs ys i x h

pub get-past : {X : Type 0} (xs : List X) (i : ℕ) → length xs ≤ i → slice_get xs i ≡ None
get-past [] i h = refl
get-past (x ∷ xs) zero h = absurd (omega arith)
get-past (x ∷ xs) (suc i) h = get-past xs i (omega arith)

pub get-take_past : {X : Type 0} (n : ℕ) (xs : List X) (i : ℕ) → n ≤ i → slice_get (take n xs) i ≡ None
get-take_past zero xs i h = refl
get-take_past (suc n) [] i h = refl
get-take_past (suc n) (x ∷ xs) zero h = absurd (omega arith)
get-take_past (suc n) (x ∷ xs) (suc i) h = get-take_past n xs i (omega arith)

pub set-same : {X : Type 0} (xs : List X) (n : ℕ) (x : X) → slice_get xs n ≡ Some x → slice_set xs n x ≡ xs
set-same [] n x h = refl
set-same (y ∷ xs) zero x h = ap (λ z. z ∷ xs) (sym (some_same y x h))
set-same (y ∷ xs) (suc n) x h = ap (λ zs. y ∷ zs) (set-same xs n x h)

pub set-again : {X : Type 0} (xs : List X) (n : ℕ) (x y : X) → slice_set (slice_set xs n x) n y ≡ slice_set xs n y
set-again [] n x y = refl
set-again (z ∷ xs) zero x y = refl
set-again (z ∷ xs) (suc n) x y = ap (λ zs. z ∷ zs) (set-again xs n x y)

pub map-set : {X Y : Type 0} (f : X → Y) (xs : List X) (n : ℕ) (x : X) → map f (slice_set xs n x) ≡ slice_set (map f xs) n (f x)
map-set f [] n x = refl
map-set f (y ∷ xs) zero x = refl
map-set f (y ∷ xs) (suc n) x = ap (λ ys. f y ∷ ys) (map-set f xs n x)

pub map-take : {X Y : Type 0} (f : X → Y) (n : ℕ) (xs : List X) → map f (take n xs) ≡ take n (map f xs)
map-take f zero xs = refl
map-take f (suc n) [] = refl
map-take f (suc n) (x ∷ xs) = ap (λ ys. f x ∷ ys) (map-take f n xs)

pub map-drop : {X Y : Type 0} (f : X → Y) (n : ℕ) (xs : List X) → map f (drop n xs) ≡ drop n (map f xs)
map-drop f zero xs = refl
map-drop f (suc n) [] = refl
map-drop f (suc n) (x ∷ xs) = map-drop f n xs
