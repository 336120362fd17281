-- Rows of keys in re-sorted order are those of places in re-sorted order.
use Rattle.std.proofs.Common.{◌≡◌, inl, inr, ℕ, zero, suc, ◌<◌, Bool, true, false, cond, ◌&&◌, ◌||◌, nat_eq, nat_lt, List, [], ◌∷◌, length, map, get_or, unwrap_or, All, refl, sym, ◌∙◌, ap, arith}
use Rattle.std.specs.Prelude.{slice_get}
use Rattle.std.specs.Option.{option_map}
use Rattle.std.specs.Ordering.{is_lt, ordering_then}
use Rattle.std.specs.List.{range_with_len, Contains}
use Rattle.std.proofs.lemmas.Bool.{cases_eq, cases_lt}
use Rattle.std.proofs.lemmas.List.{length-map, get_or-map}
use Rattle.std.proofs.lemmas.List.Elements.{All-cons, All-head, All-tail, All-contains_itself}
use Rattle.ut_key.specs.Keys.{key_cmp}
use Rattle.ut_value.specs.declared.value.Value.{Value}
use Rattle.ut_value.specs.KeyBytes.{key_of}
use Rattle.ut_plain.specs.declared.stage.Placed.{Placed}
use Rattle.ut_plain.specs.Merges as plain
use Rattle.ut_plain.specs.Merges.{put, in_order, distinct}
use Rattle.ut_l2.specs.KeyRows.{KeyRow, cells_at, no_row}
use Rattle.ut_merge.specs.Resorting.{row_cmp, column_order, width_of, resorted}
use Rattle.ut_merge.specs.Jobs.{HaveOwnIds}

-- the keys of a place
abbrev pub keys_of : Placed → KeyRow
keys_of place = record { id = place.id; keys = map key_of place.values }

-- ---- in order

in_order-map : {X Y : Type 0} (before : X → X → Bool) (after : Y → Y → Bool) (f : X → Y) → ((a b : X) → after (f a) (f b) ≡ before a b) → (xs : List X) → in_order after (map f xs) ≡ map f (in_order before xs)
in_order-map before after f same [] = refl
in_order-map before after f same (x ∷ xs) = ap (put after (f x)) (in_order-map before after f same xs) ∙ put-map x (in_order before xs)
  where
    put-map : (x : _) (ys : List _) → put after (f x) (map f ys) ≡ map f (put before x ys)
    put-map x [] = refl
    put-map x (y ∷ ys) = ap (λ b. cond b (f y ∷ put after (f x) (map f ys)) (f x ∷ f y ∷ map f ys)) (same y x) ∙ by (before y x) (put-map x ys)
      where
        by : (b : Bool) → put after (f x) (map f ys) ≡ map f (put before x ys) → cond b (f y ∷ put after (f x) (map f ys)) (f x ∷ f y ∷ map f ys) ≡ map f (cond b (y ∷ put before x ys) (x ∷ y ∷ ys))
        by true e = ap (λ l. f y ∷ l) e
        by false e = refl

All-in_order : {X : Type 0} (Q : X → Type 0) (before : X → X → Bool) (xs : List X) → All Q xs → All Q (in_order before xs)
All-in_order Q before [] h = h
All-in_order Q before (x ∷ xs) h = All-put x (in_order before xs) (All-head Q x xs h) (All-in_order Q before xs (All-tail Q x xs h))
  where
    All-put : (x : _) (ys : List _) → Q x → All Q ys → All Q (put before x ys)
    All-put x [] q h = All-cons Q x [] q h
    All-put x (y ∷ ys) q h = by (before y x) (All-put x ys q (All-tail Q y ys h))
      where
        by : (b : Bool) → All Q (put before x ys) → All Q (cond b (y ∷ put before x ys) (x ∷ y ∷ ys))
        by true more = All-cons Q y (put before x ys) (All-head Q y ys h) more
        by false more = All-cons Q x (y ∷ ys) q h

-- ---- the same order

key-in : (column : ℕ) (values : List Value) → get_or (map key_of values) column [] ≡ unwrap_or (option_map key_of (slice_get values column)) []
key-in column [] = refl
key-in zero (v ∷ vs) = refl
key-in (suc column) (v ∷ vs) = key-in column vs

cells-of : (column : ℕ) (places : List Placed) → cells_at column (map keys_of places) ≡ map (plain.key_in column) places
cells-of column [] = refl
cells-of column (p ∷ ps) = λ i. key-in column p.values i ∷ cells-of column ps i

width-of : (places : List Placed) → width_of (map keys_of places) ≡ plain.width_of places
width-of [] = refl
width-of (p ∷ ps) = length-map p.values key_of

column_order-of : (places : List Placed) → column_order (map keys_of places) ≡ plain.column_order places
column_order-of places = λ i.
    in_order (λ a b. nat_lt (distinct (cells-of a places i)) (distinct (cells-of b places i)) || (nat_eq (distinct (cells-of a places i)) (distinct (cells-of b places i)) && nat_lt a b)) (range_with_len 0 (width-of places i))

row_cmp-of : (columns : List ℕ) (a b : Placed) → row_cmp columns (keys_of a) (keys_of b) ≡ plain.place_cmp columns a b
row_cmp-of [] a b = refl
row_cmp-of (c ∷ cs) a b = λ i. ordering_then (key_cmp (key-in c a.values i) (key-in c b.values i)) (row_cmp-of cs a b i)

pub resorted-keys : (places : List Placed) → resorted (map keys_of places) ≡ map keys_of (plain.resorted places)
resorted-keys places =
    ap (λ cs. in_order (λ a b. is_lt (row_cmp cs a b)) (map keys_of places)) (column_order-of places)
    ∙ in_order-map (λ a b. is_lt (plain.place_cmp (plain.column_order places) a b)) (λ a b. is_lt (row_cmp (plain.column_order places) a b)) keys_of (λ a b. ap is_lt (row_cmp-of (plain.column_order places) a b)) places

-- ---- places told by their keys

-- two places of a list whose ids differ are one where their ids are
same-place : (places : List Placed) → HaveOwnIds (map keys_of places) → (x y : Placed) → Contains places x → Contains places y → x.id ≡ y.id → x ≡ y
same-place places own x y a b same = elim (cases_eq a.0 b.0) [
  | inl e ↦ sym a.2 ∙ (ap (λ k. get_or places k x) e ∙ any b.0 b.1 x y) ∙ b.2
  | inr away ↦ elim (cases_lt a.0 b.0) [
    | inl lt ↦ absurd (own a.0 b.0 lt (omega (arith, b.1, length-map places keys_of)) (id-at a.0 x a.1 a.2 ∙ same ∙ sym (id-at b.0 y b.1 b.2)))
    | inr le ↦ absurd (own b.0 a.0 (omega (arith, le, away)) (omega (arith, a.1, length-map places keys_of)) (id-at b.0 y b.1 b.2 ∙ sym same ∙ sym (id-at a.0 x a.1 a.2)))
  ]
]
  where
    any : (k : ℕ) → k < length places → (d e : Placed) → get_or places k d ≡ get_or places k e
    any k lt d e = from places k lt
      where
        from : (ps : List Placed) (k : ℕ) → k < length ps → get_or ps k d ≡ get_or ps k e
        from [] k lt = absurd (omega (arith, lt))
        from (p ∷ ps) zero lt = refl
        from (p ∷ ps) (suc k) lt = from ps k (omega (arith, lt))

    id-at : (k : ℕ) (z : Placed) → k < length places → get_or places k z ≡ z → (get_or (map keys_of places) k no_row).id ≡ z.id
    id-at k z lt e = ap (λ (r : KeyRow). r.id) (get_or-map keys_of places k z no_row lt) ∙ ap (λ (p : Placed). p.id) e

same-places : (places : List Placed) → HaveOwnIds (map keys_of places) → (xs ys : List Placed) → map keys_of xs ≡ map keys_of ys → All (Contains places) xs → All (Contains places) ys → xs ≡ ys
same-places places own [] [] e a b = refl
same-places places own [] (y ∷ ys) e a b = absurd (omega (arith, ap length e))
same-places places own (x ∷ xs) [] e a b = absurd (omega (arith, ap length e))
same-places places own (x ∷ xs) (y ∷ ys) e a b =
    let first = same-place places own x y (All-head (Contains places) x xs a) (All-head (Contains places) y ys b) (ap (λ (l : List KeyRow). (get_or l 0 no_row).id) e) in
    let rest = same-places places own xs ys (ap (λ (l : List KeyRow). rest_of l) e) (All-tail (Contains places) x xs a) (All-tail (Contains places) y ys b) in
    λ i. first i ∷ rest i
  where
    rest_of : List KeyRow → List KeyRow
    rest_of [] = []
    rest_of (r ∷ rs) = rs

-- Places of a list whose keys are those in re-sorted order are the list in re-sorted order.
pub resorted-by_keys : (places ys : List Placed) → HaveOwnIds (map keys_of places) → map keys_of ys ≡ resorted (map keys_of places) → All (Contains places) ys → ys ≡ plain.resorted places
resorted-by_keys places ys own same there =
    same-places places own ys (plain.resorted places) (same ∙ resorted-keys places) there
    (All-in_order (Contains places) (λ a b. is_lt (plain.place_cmp (plain.column_order places) a b)) places (All-contains_itself places))
