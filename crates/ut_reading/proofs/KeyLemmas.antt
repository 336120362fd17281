-- Keys of a row's values, and the values of keys.
use Rattle.std.proofs.Common.{◌≡◌, inl, inr, ℕ, zero, suc, ◌-◌, ◌^◌, ◌<◌, Bool, true, false, ◌&&◌, nat_eq, nat_lt, List, [], ◌∷◌, length, map, get_or, IsTrue, refl, sym, ◌∙◌, ap, arith, true≢false}
use Rattle.std.specs.Prelude.{ℤ, pos, negsuc}
use Rattle.std.specs.Int.{w64, to_be_bytes, from_be_bytes, bytes_high_first, byte_at}
use Rattle.std.specs.List.{list_all}
use Rattle.std.proofs.lemmas.Bool.{and_parts, cases_lt, lt-ltb, ltb-true, eqb-true}
use Rattle.std.proofs.lemmas.Nat.{be_bytes_8}
use Rattle.ut_value.specs.declared.value.Kind.{Kind}
use Rattle.ut_value.specs.declared.value.Kind.TheVariants as kinds
use Rattle.ut_value.specs.declared.value.Value.{Value}
use Rattle.ut_value.specs.declared.value.Value.TheVariants as values
use Rattle.ut_value.specs.declared.value.Column.{Column}
use Rattle.ut_value.specs.KeyBytes.{key_of, is_int, is_value, is_of_kind, sign_flipped}
use Rattle.ut_value.proofs.KeyLemmas.{one_value_each}
use Rattle.ut_main.specs.Spelling.{is_key, kind_at}
use Rattle.ut_plain.specs.Tables.{fits_columns}
use Rattle.ut_image.specs.Rules.{is_cell, are_cells}
use Rattle.ut_image.proofs.OneLemmas.{cells_split, cells_join}

-- ---- the key of a value

byte_small : (k n : ℕ) → byte_at k n < 256
byte_small zero n = omega arith
byte_small (suc k) n = omega arith

all_small : (k n : ℕ) → list_all (λ b. nat_lt b 256) (bytes_high_first k n) ≡ true
all_small zero n = refl
all_small (suc k) n = λ i. lt-ltb (byte_at k n) 256 (byte_small k n) i && all_small k n i

pub key_is : (kind : Kind) (v : Value) → IsTrue (is_cell kind v) → IsTrue (is_key kind (key_of v))
key_is kinds.Int (values.Int x) is = all_small 8 (sign_flipped x)
key_is kinds.Int (values.Text t) is = absurd (true≢false (sym is))
key_is kinds.Text (values.Int x) is = absurd (true≢false (sym is))
key_is kinds.Text (values.Text t) is = is

-- ---- the value of a key

restored : (n : ℕ) → n < 2 ^ 64 → (x : ℤ) × IsTrue (is_int x) × (sign_flipped x ≡ n)
restored n lt = elim (cases_lt n (2 ^ 63)) [
  | inl low ↦ (negsuc (9223372036854775807 - n), lt-ltb (9223372036854775807 - n) 9223372036854775808 (omega arith), omega arith)
  | inr high ↦ (pos (n - 9223372036854775808), lt-ltb (n - 9223372036854775808) 9223372036854775808 (omega arith), omega arith)
]

small_bytes : (bs : List ℕ) → IsTrue (list_all (λ b. nat_lt b 256) bs) → (i : ℕ) → get_or bs i 0 < 256
small_bytes [] is i = omega arith
small_bytes (b ∷ bs) is zero = ltb-true b 256 (and_parts (nat_lt b 256) (list_all (λ b. nat_lt b 256) bs) is).0
small_bytes (b ∷ bs) is (suc i) = small_bytes bs (and_parts (nat_lt b 256) (list_all (λ b. nat_lt b 256) bs) is).1 i

all_below : (bs : List ℕ) → ((i : ℕ) → get_or bs i 0 < 256) → from_be_bytes w64 bs < 2 ^ 64
all_below bs small = omega (arith, small 0, small 1, small 2, small 3, small 4, small 5, small 6, small 7)

pub value_is : (kind : Kind) (key : List ℕ) → IsTrue (is_key kind key) → (v : Value) × IsTrue (is_cell kind v) × (key_of v ≡ key)
value_is kinds.Int key is =
    let parts = and_parts (nat_eq (length key) 8) (list_all (λ b. nat_lt b 256) key) is in
    let n : ℕ = from_be_bytes w64 key in
    let bytes : to_be_bytes w64 n ≡ key = be_bytes_8 key n (eqb-true (length key) 8 parts.0) (small_bytes key parts.1) refl in
    let x = restored n (all_below key (small_bytes key parts.1)) in
    (values.Int x.0, x.1, ap (to_be_bytes w64) x.2 ∙ bytes)
value_is kinds.Text key is = (values.Text key, is, refl)

-- ---- rows

no_cells : (a : Bool) → IsTrue (false && a) → ⊥
no_cells a is = true≢false (sym is)

-- there is a key of its kind for each column
pub cells_long : (columns : List Column) (vs : List Value) → IsTrue (are_cells columns vs) → length (map key_of vs) ≡ length columns
cells_long [] [] is = refl
cells_long [] (v ∷ vs) is = absurd (no_cells (list_all is_value (v ∷ vs)) is)
cells_long (c ∷ cs) [] is = absurd (no_cells true is)
cells_long (c ∷ cs) (v ∷ vs) is = ap suc (cells_long cs vs (cells_split c cs v vs is).1)

pub cell_key : (columns : List Column) (vs : List Value) (j : ℕ) → IsTrue (are_cells columns vs) → j < length columns → IsTrue (is_key (kind_at j columns) (get_or (map key_of vs) j []))
cell_key [] vs j is lt = absurd (omega (arith, lt))
cell_key (c ∷ cs) [] j is lt = absurd (no_cells true is)
cell_key (c ∷ cs) (v ∷ vs) zero is lt = key_is c.kind v (cells_split c cs v vs is).0
cell_key (c ∷ cs) (v ∷ vs) (suc j) is lt = cell_key cs vs j (cells_split c cs v vs is).1 (omega (arith, lt))

-- values for keys of the columns' kinds
pub cells_of_keys : (columns : List Column) (keys : List (List ℕ)) → length keys ≡ length columns → ((j : ℕ) → j < length columns → IsTrue (is_key (kind_at j columns) (get_or keys j [])))
    → (vs : List Value) × IsTrue (are_cells columns vs) × (map key_of vs ≡ keys)
cells_of_keys [] [] long kinds = ([], refl, refl)
cells_of_keys [] (k ∷ keys) long kinds = absurd (omega (arith, long))
cells_of_keys (c ∷ cs) [] long kinds = absurd (omega (arith, long))
cells_of_keys (c ∷ cs) (k ∷ keys) long kinds =
    let v = value_is c.kind k (kinds zero (omega arith)) in
    let rest = cells_of_keys cs keys (omega (arith, long)) (λ j lt. kinds (suc j) (omega (arith, lt))) in
    (v.0 ∷ rest.0, cells_join c cs v.0 rest.0 v.1 rest.1, ap (λ (l : List ℕ). l ∷ map key_of rest.0) v.2 ∙ ap (λ (l : List (List ℕ)). k ∷ l) rest.2)

-- values of the columns' kinds with the same keys are the same
pub one_cells : (columns : List Column) (vs ws : List Value) → IsTrue (are_cells columns vs) → IsTrue (are_cells columns ws) → map key_of vs ≡ map key_of ws → vs ≡ ws
one_cells [] [] [] h k same = refl
one_cells [] [] (w ∷ ws) h k same = absurd (no_cells (list_all is_value (w ∷ ws)) k)
one_cells [] (v ∷ vs) ws h k same = absurd (no_cells (list_all is_value (v ∷ vs)) h)
one_cells (c ∷ cs) [] ws h k same = absurd (no_cells true h)
one_cells (c ∷ cs) (v ∷ vs) [] h k same = absurd (no_cells true k)
one_cells (c ∷ cs) (v ∷ vs) (w ∷ ws) h k same =
    let hs = cells_split c cs v vs h in
    let ks = cells_split c cs w ws k in
    let here : key_of v ≡ key_of w = cc in
    let there : map key_of vs ≡ map key_of ws = cc in
    let hv = and_parts (is_of_kind c.kind v) (is_value v) hs.0 in
    let kw = and_parts (is_of_kind c.kind w) (is_value w) ks.0 in
    ap (λ (x : Value). x ∷ vs) (one_value_each c.kind (key_of w) v w (hv.0, hv.1, sym here) (kw.0, kw.1, refl)) ∙ ap (λ (l : List Value). w ∷ l) (one_cells cs vs ws hs.1 ks.1 there)

pub fits_long : (columns : List Column) (vs : List Value) → IsTrue (fits_columns columns vs) → length vs ≡ length columns
fits_long [] [] is = refl
fits_long [] (v ∷ vs) is = absurd (true≢false (sym is))
fits_long (c ∷ cs) [] is = absurd (true≢false (sym is))
fits_long (c ∷ cs) (v ∷ vs) is = ap suc (fits_long cs vs (and_parts (is_of_kind c.kind v) (fits_columns cs vs) is).1)
