-- The total of numbers is that of their codes' numbers, each as often as its code occurs.
use Rattle.std.proofs.Common.{◌≡◌, inl, inr, ℕ, zero, suc, ◌+◌, ◌<◌, ◌^◌, ℤ, pos, negsuc, ◌+ℤ◌, cond, nat_eq, List, [], ◌∷◌, ◌++◌, length, map, drop, get_or, All, None, Some, IsTrue, refl, sym, ◌∙◌, ap, arith, ltb-true, true≢false}
use Rattle.std.specs.Prelude.{slice_get, ◌*ℤ◌, ◌-ℤ◌}
use Rattle.std.specs.Option.{option_map, option_and_then}
use Rattle.std.specs.List.{sum_by}
use Rattle.std.specs.List.Sorted.{IsPermutation}
use Rattle.std.proofs.Math.IntN.{zero-*ℤ, suc_ℤ-*ℤ}
use Rattle.std.proofs.lemmas.Bool.{cases_eq, eq-eqb, ne_eqb}
use Rattle.std.proofs.lemmas.Nat.{from_be_bytes-to_be_bytes_8}
use Rattle.std.proofs.lemmas.Int.{ints}
use Rattle.std.proofs.lemmas.List.{map-append}
use Rattle.std.proofs.lemmas.List.Sums.{sum_by-cons}
use Rattle.std.proofs.lemmas.List.Elements.{All-nil, All-cons, All-head, All-tail}
use Rattle.std.proofs.lemmas.List.Sorted.{All-permutation, IsPermutation-map, IsPermutation-sym, sum_by-IsPermutation}
use Rattle.std.proofs.lemmas.Option.{slice_get_within, get_or_from_slice_get}
use borrow.Author.Differences.{up, down}
use Rattle.ut_value.specs.declared.value.Value.{Value}
use Rattle.ut_value.specs.declared.value.Value.TheVariants.{Int, Text}
use Rattle.ut_value.specs.declared.value.Kind.TheVariants as kinds
use Rattle.ut_value.specs.declared.value.Column.{Column}
use Rattle.ut_value.specs.KeyBytes.{is_int, is_of_kind, is_value, int_key, key_of, sign_flipped}
use Rattle.ut_table.specs.Totals.{key_number, weighed}
use Rattle.ut_plain.specs.Query.{column_values, number_of, total}
use Rattle.ut_plain.specs.Tables.{column_of}
use Rattle.ut_scan.specs.declared.place.Found.{Found}
use Rattle.ut_scan.specs.Coded.{keys_in}
use Rattle.ut_scan.specs.Tallies.{how_often}
use Rattle.ut_exact.specs.Places.{StagedRow}
use Rattle.ut_staged.specs.Staged.{Staged, row_at}
use Rattle.ut_table.specs.Coded.{keyed_main}
use Rattle.ut_table.specs.Finds.{rows_at}
use Rattle.ut_table.specs.Tallied.{value_at, IsTally}
use Rattle.ut_ops.specs.Fit.{Fit, is_row, cell}
use Rattle.ut_ops.proofs.CellLemmas.{is_cell, one_kind, within_kind}
use Rattle.ut_ops.proofs.ColumnLemmas.{fit_first, fit_rest, values_some}

-- ---- products and sums

regrouped : (p q r s : ℤ) → (p +ℤ q) +ℤ (r +ℤ s) ≡ (p +ℤ r) +ℤ (q +ℤ s)
regrouped p q r s = omega (arith, ints)

one_behind : (p q z : ℤ) → (p +ℤ q) +ℤ z ≡ (p +ℤ z) +ℤ q
one_behind p q z = omega (arith, ints)

none_before : (z : ℤ) → pos 0 +ℤ z ≡ z
none_before z = omega (arith, ints)

none_behind : (z : ℤ) → z +ℤ pos 0 ≡ z
none_behind z = omega (arith, ints)

-- so many and so many more
shared : (a b : ℕ) (z : ℤ) → pos (a + b) *ℤ z ≡ (pos a *ℤ z) +ℤ (pos b *ℤ z)
shared zero b z =
    let e : 0 + b ≡ b = omega arith in
    ap (λ n. pos n *ℤ z) e ∙ sym (none_before (pos b *ℤ z)) ∙ ap (λ m. m +ℤ (pos b *ℤ z)) (sym (zero-*ℤ z))
shared (suc a) b z =
    let e : suc a + b ≡ suc (a + b) = omega arith in
    ap (λ n. pos n *ℤ z) e ∙ suc_ℤ-*ℤ (pos (a + b)) z ∙ ap (λ m. m +ℤ z) (shared a b z) ∙ one_behind (pos a *ℤ z) (pos b *ℤ z) z
    ∙ ap (λ m. m +ℤ (pos b *ℤ z)) (sym (suc_ℤ-*ℤ (pos a) z))

once : (z : ℤ) → pos 1 *ℤ z ≡ z
once z = suc_ℤ-*ℤ (pos 0) z ∙ ap (λ m. m +ℤ z) (zero-*ℤ z) ∙ none_before z

-- ---- the numbers of codes

-- the numbers of keys, each as often as its code is counted
abbrev counted : (ℕ → ℕ) → List (List ℕ) → ℤ
counted count [] = pos 0
counted count (key ∷ keys) = (pos (count 0) *ℤ key_number key) +ℤ counted (λ code. count (suc code)) keys

counted-same : (f g : ℕ → ℕ) (keys : List (List ℕ)) → ((c : ℕ) → f c ≡ g c) → counted f keys ≡ counted g keys
counted-same f g [] h = refl
counted-same f g (key ∷ keys) h = λ i. (pos (h 0 i) *ℤ key_number key) +ℤ counted-same (λ c. f (suc c)) (λ c. g (suc c)) keys (λ c. h (suc c)) i

counted-none : (f : ℕ → ℕ) (keys : List (List ℕ)) → ((c : ℕ) → f c ≡ 0) → counted f keys ≡ pos 0
counted-none f [] h = refl
counted-none f (key ∷ keys) h =
    (λ i. (pos (h 0 i) *ℤ key_number key) +ℤ counted-none (λ c. f (suc c)) keys (λ c. h (suc c)) i)
    ∙ none_behind (pos 0 *ℤ key_number key) ∙ zero-*ℤ (key_number key)

counted-both : (f g : ℕ → ℕ) (keys : List (List ℕ)) → counted (λ c. f c + g c) keys ≡ counted f keys +ℤ counted g keys
counted-both f g [] = refl
counted-both f g (key ∷ keys) =
    (λ i. shared (f 0) (g 0) (key_number key) i +ℤ counted-both (λ c. f (suc c)) (λ c. g (suc c)) keys i)
    ∙ regrouped (pos (f 0) *ℤ key_number key) (pos (g 0) *ℤ key_number key) (counted (λ c. f (suc c)) keys) (counted (λ c. g (suc c)) keys)

next-code : (c code : ℕ) → nat_eq (suc c) (suc code) ≡ nat_eq c code
next-code c code = elim (cases_eq c code) [
  | inl same ↦ eq-eqb (suc c) (suc code) (ap suc same) ∙ sym (eq-eqb c code same)
  | inr other ↦ ne_eqb (suc c) (suc code) (λ e. other (omega (arith, e))) ∙ sym (ne_eqb c code other)
]

-- one code once
counted-one : (code : ℕ) (keys : List (List ℕ)) → code < length keys → counted (λ c. cond (nat_eq c code) 1 0) keys ≡ key_number (get_or keys code [])
counted-one code [] lt = absurd (omega (arith, lt))
counted-one zero (key ∷ keys) lt =
    (λ i. (pos (cond (eq-eqb 0 0 refl i) 1 0) *ℤ key_number key) +ℤ counted-none (λ c. cond (nat_eq (suc c) 0) 1 0) keys (λ c. ap {B = ℕ} (λ b. cond b 1 0) (ne_eqb (suc c) 0 (λ e. absurd (omega (arith, e))))) i)
    ∙ none_behind (pos 1 *ℤ key_number key) ∙ once (key_number key)
counted-one (suc code) (key ∷ keys) lt =
    (λ i. (pos (cond (ne_eqb 0 (suc code) (λ e. absurd (omega (arith, e))) i) 1 0) *ℤ key_number key) +ℤ counted-same (λ c. cond (nat_eq (suc c) (suc code)) 1 0) (λ c. cond (nat_eq c code) 1 0) keys (λ c. ap {B = ℕ} (λ b. cond b 1 0) (next-code c code)) i)
    ∙ ap (λ z. z +ℤ counted (λ c. cond (nat_eq c code) 1 0) keys) (zero-*ℤ (key_number key)) ∙ none_before (counted (λ c. cond (nat_eq c code) 1 0) keys)
    ∙ counted-one code keys (omega (arith, lt))

-- the numbers of codes together
abbrev numbered : List (List ℕ) → List ℕ → ℤ
numbered keys [] = pos 0
numbered keys (c ∷ cs) = key_number (get_or keys c []) +ℤ numbered keys cs

-- each code as often as it occurs
counted-codes : (keys : List (List ℕ)) (codes : List ℕ) → All (λ c. c < length keys) codes → counted (how_often codes) keys ≡ numbered keys codes
counted-codes keys [] h = counted-none (how_often []) keys (λ c. refl)
counted-codes keys (c ∷ cs) h =
    counted-same (how_often (c ∷ cs)) (λ k. cond (nat_eq k c) 1 0 + how_often cs k) keys (λ k. sum_by-cons (λ x. cond (nat_eq k x) 1 0) c cs)
    ∙ counted-both (λ k. cond (nat_eq k c) 1 0) (how_often cs) keys
    ∙ (λ i. counted-one c keys (All-head (λ x. x < length keys) c cs h) i +ℤ counted-codes keys cs (All-tail (λ x. x < length keys) c cs h) i)

-- counts that are listed
weighed-counted : (counts : List ℕ) (keys : List (List ℕ)) → weighed counts keys ≡ counted (λ code. get_or counts code 0) keys
weighed-counted [] keys = sym (counted-none (λ code. 0) keys (λ code. refl))
weighed-counted (n ∷ counts) [] = refl
weighed-counted (n ∷ counts) (key ∷ keys) = ap (λ z. (pos n *ℤ key_number key) +ℤ z) (weighed-counted counts keys)

-- ---- the keys of rows

-- a number out of its bits
unflipped : (x : ℤ) → IsTrue (is_int x) → (sign_flipped x < 2 ^ 64) × (pos (sign_flipped x) -ℤ pos 9223372036854775808 ≡ x)
unflipped (pos n) h = let lt = ltb-true n (2 ^ 63) h in (omega (arith, lt), omega (arith, ints))
unflipped (negsuc n) h = let lt = ltb-true n (2 ^ 63) h in (omega (arith, lt), omega (arith, ints, lt))

-- the number of a number's key
key_number-int : (x : ℤ) → IsTrue (is_int x) → key_number (int_key x) ≡ x
key_number-int x h =
    let bits = unflipped x h in
    ap (λ (n : ℕ). pos n -ℤ pos 9223372036854775808) (from_be_bytes-to_be_bytes_8 (sign_flipped x) bits.0) ∙ bits.1

cell-number : (key : List ℕ) (v : Value) → IsTrue (is_of_kind kinds.Int v) → IsTrue (is_value v) → key ≡ key_of v → key_number key ≡ number_of v
cell-number key (Int x) of kept is = ap key_number is ∙ key_number-int x kept
cell-number key (Text t) of kept is = absurd (true≢false (sym of))

module _ (s : Staged) (column : ℕ) (kind : option_map (λ (c : Column). c.kind) (slice_get s.columns column) ≡ Some kinds.Int) (keys : List (List ℕ)) where
  -- a row's number by its code
  one-code : (f : Found) (code : ℕ) → IsTrue (is_row s.columns (row_at s f.place)) → slice_get keys code ≡ option_map key_of (value_at s column f) → (key_number (get_or keys code []) ≡ number_of (cell s column f)) × (code < length keys)
  one-code f code fit e =
      let x = is_cell s column f fit (within_kind s.columns column kinds.Int kind) in
      let of = ap (λ k. is_of_kind k (cell s column f)) (one_kind kinds.Int x.kind (sym kind ∙ x.kind_is)) ∙ x.of_kind in
      let at : slice_get keys code ≡ Some (key_of (cell s column f)) = e ∙ ap (option_map key_of) (ap (option_and_then (λ (row : StagedRow). slice_get row.values column)) x.there ∙ x.is) in
      (cell-number (get_or keys code []) (cell s column f) of x.kept (get_or_from_slice_get keys code (key_of (cell s column f)) [] at), slice_get_within keys code (key_of (cell s column f)) at)

  -- the numbers of rows by their codes
  coded : (codes : List ℕ) (fs : List Found) → Fit s fs → map (slice_get keys) codes ≡ map (λ f. option_map key_of (value_at s column f)) fs → (numbered keys codes ≡ total (map (cell s column) fs)) × All (λ c. c < length keys) codes
  coded [] [] fit e = (refl, All-nil (λ c. c < length keys))
  coded [] (f ∷ fs) fit e = cc
  coded (c ∷ cs) [] fit e = cc
  coded (c ∷ cs) (f ∷ fs) fit e =
      let one = one-code f c (fit_first s f fs fit) (ap (λ l. get_or l 0 None) e) in
      let rest = coded cs fs (fit_rest s f fs fit) (ap (drop 1) e) in
      ((λ i. one.0 i +ℤ rest.0 i), All-cons (λ n. n < length keys) c cs one.1 rest.1)

-- ---- totals

total-append : (xs ys : List Value) → total (xs ++ ys) ≡ total xs +ℤ total ys
total-append [] ys = sym (none_before (total ys))
total-append (v ∷ vs) ys = ap (λ m. number_of v +ℤ m) (total-append vs ys) ∙ sym (behind (number_of v) (total vs) (total ys))
  where
    behind : (a b c : ℤ) → (a +ℤ b) +ℤ c ≡ a +ℤ (b +ℤ c)
    behind a b c = omega (arith, ints)

total-parts : (vs : List Value) → total vs ≡ pos (sum_by (λ v. up (number_of v)) vs) -ℤ pos (sum_by (λ v. down (number_of v)) vs)
total-parts [] = refl
total-parts (v ∷ vs) =
    by (number_of v) (total vs) (sum_by (λ w. up (number_of w)) vs) (sum_by (λ w. down (number_of w)) vs) (total-parts vs)
    ∙ sym (λ i. pos (sum_by-cons (λ w. up (number_of w)) v vs i) -ℤ pos (sum_by-cons (λ w. down (number_of w)) v vs i))
  where
    by : (x t : ℤ) (a b : ℕ) → t ≡ pos a -ℤ pos b → x +ℤ t ≡ pos (up x + a) -ℤ pos (down x + b)
    by x t a b e = omega (arith, ints)

total-permuted : (xs ys : List Value) → IsPermutation xs ys → total ys ≡ total xs
total-permuted xs ys h =
    total-parts ys
    ∙ (λ i. pos (sum_by-IsPermutation (λ v. up (number_of v)) xs ys h i) -ℤ pos (sum_by-IsPermutation (λ v. down (number_of v)) xs ys h i))
    ∙ sym (total-parts xs)

all-behind : {X : Type 0} (P : X → Type 0) (xs ys : List X) → All P (xs ++ ys) → All P ys
all-behind P [] ys h = h
all-behind P (x ∷ xs) ys h = all-behind P xs ys (All-tail P x (xs ++ ys) h)

-- the total of rows by the codes of those in main, and by the others
pub tally-total : (s : Staged) (column n : ℕ) (name : List ℕ) (found : List Found) (counts : List ℕ) (rest : List Found) (keys : List (List ℕ)) (a b : ℤ) → option_map (λ (c : Column). c.kind) (slice_get s.columns column) ≡ Some kinds.Int
    → column_of s.columns name ≡ Some column → Fit s found → IsTally s column found counts rest → keys ≡ keys_in (keyed_main s) column
    → a ≡ weighed counts keys → b ≡ total (map (cell s column) rest) → a +ℤ b ≡ total (column_values s.columns name (rows_at n s found))
tally-total s column n name found counts rest keys a b kind at fit tally keys_is a_is b_is =
    let row = λ (f : Found). IsTrue (is_row s.columns (row_at s f.place)) in
    let fit_main : Fit s tally.in_main = record { each = all-behind row rest tally.in_main (All-permutation row found (rest ++ tally.in_main) (IsPermutation-sym (rest ++ tally.in_main) found tally.all) fit.each) } in
    let of = coded s column kind keys tally.codes tally.in_main fit_main (ap (λ ks. map (slice_get ks) tally.codes) keys_is ∙ tally.keys) in
    let main : a ≡ total (map (cell s column) tally.in_main) =
    a_is ∙ weighed-counted counts keys ∙ counted-same (λ code. get_or counts code 0) (how_often tally.codes) keys tally.each ∙ counted-codes keys tally.codes of.1 ∙ of.0 in
    (λ i. main i +ℤ b_is i)
    ∙ turned (total (map (cell s column) tally.in_main)) (total (map (cell s column) rest))
    ∙ sym (total-append (map (cell s column) rest) (map (cell s column) tally.in_main))
    ∙ ap total (sym (map-append (cell s column) rest tally.in_main))
    ∙ sym (total-permuted (map (cell s column) (rest ++ tally.in_main)) (map (cell s column) found) (IsPermutation-map (cell s column) (rest ++ tally.in_main) found tally.all))
    ∙ ap total (sym (values_some n s name column found fit at))
  where
    turned : (x y : ℤ) → x +ℤ y ≡ y +ℤ x
    turned x y = omega (arith, ints)
