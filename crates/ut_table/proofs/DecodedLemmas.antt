-- The values that keys stand for are those whose keys they are.
use Rattle.std.proofs.Common.{◌≡◌, ◌≢◌, ℕ, zero, suc, ◌+◌, ◌-◌, ◌<◌, ◌^◌, Bool, true, false, cond, List, [], ◌∷◌, length, map, get_or, All, IsTrue, Option, None, Some, unwrap_or, nat_lt, refl, sym, ◌∙◌, ap, subst, arith, ltb-true, true≢false}
use Rattle.std.specs.Prelude.{ℤ, pos, negsuc, slice_get, IfSome, IfNone}
use Rattle.std.specs.List.{list_all}
use Rattle.std.proofs.lemmas.Bool.{ltb-false}
use Rattle.std.proofs.lemmas.List.{get_or-map}
use Rattle.std.proofs.lemmas.Option.{slice_get_within, get_or_from_slice_get}
use Rattle.std.proofs.lemmas.List.Elements.{All-head, All-tail, All-map, All-weaker}
use Rattle.std.proofs.lemmas.Nat.{from_be_bytes-to_be_bytes_8}
use Rattle.ut_value.specs.declared.value.Kind.{Kind}
use Rattle.ut_value.specs.declared.value.Kind.TheVariants as kinds
use Rattle.ut_value.specs.declared.value.Value.{Value}
use Rattle.ut_value.specs.declared.value.Value.TheVariants as values
use Rattle.ut_value.specs.declared.value.Column.{Column}
use Rattle.ut_value.specs.declared.value.Row.{Row}
use Rattle.ut_value.specs.KeyBytes.{sign_flipped, int_key, is_int, key_of, is_of_kind, is_value, IsKeyOf}
use Rattle.ut_value.specs.Text.{is_text}
use Rattle.ut_plain.specs.Tables.{fits_columns}
use Rattle.ut_plain.proofs.BoolLemmas.{and_left, and_right}
use Rattle.ut_l2.specs.KeyRows.{KeyRow, keyed, key_at, no_row}
use Rattle.ut_table.specs.Decoded.{sign_restored, decoded, decoded_keys, decoded_row}
use Rattle.ut_table.specs.Kept.{IsRow, IsHeld}
use Rattle.ut_table.specs.Contents.{decoded_rows}
use Rattle.ut_table.specs.declared.standing.Standing.{Standing}
use Rattle.ut_table.specs.declared.standing.Standing.TheVariants as standings
use Rattle.ut_table.specs.Standing.{values_held, Stands}

flipped_below : (x : ℤ) → IsTrue (is_int x) → sign_flipped x < 2 ^ 64
flipped_below (pos n) h = omega (arith, ltb-true n (2 ^ 63) h)
flipped_below (negsuc n) h = omega arith

sign_restored-flipped : (x : ℤ) → IsTrue (is_int x) → sign_restored (sign_flipped x) ≡ x
unfolding sign_restored
sign_restored-flipped x h = by x (nat_lt (sign_flipped x) 9223372036854775808) refl h
  where
    by : (x : ℤ) (b : Bool) → nat_lt (sign_flipped x) 9223372036854775808 ≡ b → IsTrue (is_int x) → cond b (negsuc (9223372036854775807 - sign_flipped x)) (pos (sign_flipped x - 9223372036854775808)) ≡ x
    by (pos n) true e h = absurd (omega (arith, ltb-true (n + 9223372036854775808) 9223372036854775808 e))
    by (pos n) false e h = ap pos (let is : n + 9223372036854775808 - 9223372036854775808 ≡ n = omega arith in is)
    by (negsuc n) true e h = ap negsuc (let is : 9223372036854775807 - (9223372036854775807 - n) ≡ n = omega (arith, ltb-true n 9223372036854775808 h) in is)
    by (negsuc n) false e h = absurd (omega (arith, ltb-false (9223372036854775807 - n) 9223372036854775808 e))

pub decoded-key_of : (kind : Kind) (v : Value) → IsTrue (is_of_kind kind v) → IsTrue (is_value v) → decoded kind (key_of v) ≡ v
unfolding decoded
decoded-key_of kinds.Int (values.Int x) k h = ap values.Int (ap sign_restored (from_be_bytes-to_be_bytes_8 (sign_flipped x) (flipped_below x h)) ∙ sign_restored-flipped x h)
decoded-key_of kinds.Int (values.Text t) k h = absurd (true≢false (sym k))
decoded-key_of kinds.Text (values.Int x) k h = absurd (true≢false (sym k))
decoded-key_of kinds.Text (values.Text t) k h = refl

-- the key of a number has eight bytes
number-key : (kind : Kind) (key : List ℕ) → kind ≡ kinds.Int → IsKeyOf kind key (decoded kind key) → length key ≡ 8
unfolding decoded
number-key kind key is h =
    let number : IsKeyOf kinds.Int key (decoded kinds.Int key) = subst (λ k. IsKeyOf k key (decoded k key)) is h in
    ap (λ (bytes : List ℕ). length bytes) number.2

-- and stands for the number that is read from it
pub number-decoded : (kind : Kind) (key : List ℕ) (o : Option ℤ) → kind ≡ kinds.Int → IsKeyOf kind key (decoded kind key) → IfSome o (λ x. IsTrue (is_int x) × (key ≡ int_key x)) → IfNone o (length key ≢ 8)
    → values.Int (unwrap_or o (pos 0)) ≡ decoded kind key
number-decoded kind key None is h some none = absurd (none (number-key kind key is h))
number-decoded kind key (Some x) is h some none = sym (ap (λ k. decoded k key) is ∙ ap (decoded kinds.Int) some.1 ∙ decoded-key_of kinds.Int (values.Int x) refl some.0)

-- the key of a text is the text
pub text-key : (kind : Kind) (key : List ℕ) → kind ≡ kinds.Text → IsKeyOf kind key (decoded kind key) → IsTrue (is_text key)
unfolding decoded
text-key kind key is h =
    let text : IsKeyOf kinds.Text key (decoded kinds.Text key) = subst (λ k. IsKeyOf k key (decoded k key)) is h in text.1

pub text-decoded : (kind : Kind) (key text : List ℕ) → kind ≡ kinds.Text → text ≡ key → values.Text text ≡ decoded kind key
unfolding decoded
text-decoded kind key text is e = ap values.Text e ∙ ap (λ k. decoded k key) (sym is)

pub decoded_keys-keys : (cs : List Column) (vs : List Value) → IsTrue (fits_columns cs vs) → IsTrue (list_all is_value vs) → decoded_keys cs (map key_of vs) ≡ vs
decoded_keys-keys [] [] f h = refl
decoded_keys-keys [] (v ∷ vs) f h = absurd (true≢false (sym f))
decoded_keys-keys (c ∷ cs) [] f h = absurd (true≢false (sym f))
decoded_keys-keys (c ∷ cs) (v ∷ vs) f h = λ i.
    decoded-key_of c.kind v (and_left (is_of_kind c.kind v) (fits_columns cs vs) f) (and_left (is_value v) (list_all is_value vs) h) i
    ∷ decoded_keys-keys cs vs (and_right (is_of_kind c.kind v) (fits_columns cs vs) f) (and_right (is_value v) (list_all is_value vs) h) i

pub decoded_row-keyed : (columns : List Column) (row : Row) → IsRow columns row → decoded_row columns (keyed row) ≡ row
decoded_row-keyed columns row h = λ i. record { id = row.id; values = decoded_keys-keys columns row.values h.fits h.kept i }

-- rows come back from their keys
pub decoded_rows-keyed : (columns : List Column) (rows : List Row) → All (IsRow columns) rows → decoded_rows columns (map keyed rows) ≡ rows
decoded_rows-keyed columns [] h = refl
decoded_rows-keyed columns (row ∷ rows) h = λ i.
    decoded_row-keyed columns row (All-head (IsRow columns) row rows h) i ∷ decoded_rows-keyed columns rows (All-tail (IsRow columns) row rows h) i

pub fits-length : (cs : List Column) (vs : List Value) → IsTrue (fits_columns cs vs) → length vs ≡ length cs
fits-length [] [] f = refl
fits-length [] (v ∷ vs) f = absurd (true≢false (sym f))
fits-length (c ∷ cs) [] f = absurd (true≢false (sym f))
fits-length (c ∷ cs) (v ∷ vs) f = ap suc (fits-length cs vs (and_right (is_of_kind c.kind v) (fits_columns cs vs) f))

-- a value by its key, in a column
module _ (j : ℕ) (c : Column) where
  abbrev pub IsAt : List Column → List (List ℕ) → Type 0
  IsAt cs keys =
      let v = decoded (get_or cs j c).kind (get_or keys j []) in
      (slice_get (decoded_keys cs keys) j ≡ Some v) × IsKeyOf (get_or cs j c).kind (get_or keys j []) v

pub decoded-at : (cs : List Column) (keys : List (List ℕ)) (j : ℕ) (c : Column) → IsTrue (fits_columns cs (decoded_keys cs keys)) → IsTrue (list_all is_value (decoded_keys cs keys)) → map key_of (decoded_keys cs keys) ≡ keys → j < length cs → IsAt j c cs keys
decoded-at [] keys j c f h e lt = absurd (omega arith)
decoded-at (d ∷ cs) [] j c f h e lt = absurd (true≢false (sym f))
decoded-at (d ∷ cs) (k ∷ ks) zero c f h e lt =
    let same : key_of (decoded d.kind k) ≡ k = cc in
    (refl, (and_left (is_of_kind d.kind (decoded d.kind k)) (fits_columns cs (decoded_keys cs ks)) f, and_left (is_value (decoded d.kind k)) (list_all is_value (decoded_keys cs ks)) h, sym same))
decoded-at (d ∷ cs) (k ∷ ks) (suc j) c f h e lt =
    let rest : map key_of (decoded_keys cs ks) ≡ ks = cc in
    decoded-at cs ks j c (and_right (is_of_kind d.kind (decoded d.kind k)) (fits_columns cs (decoded_keys cs ks)) f) (and_right (is_value (decoded d.kind k)) (list_all is_value (decoded_keys cs ks)) h) rest (omega (arith, lt))

-- a value of a row that is held by its keys
pub held-value : (columns : List Column) (row : KeyRow) (j : ℕ) (c : Column) → IsHeld columns row → j < length columns → IsAt j c columns row.keys
held-value columns row j c h lt = decoded-at columns row.keys j c h.fit.fits h.fit.kept (ap (λ (r : KeyRow). r.keys) h.keys) lt

pub held-width : (columns : List Column) (row : KeyRow) → IsHeld columns row → length (decoded_keys columns row.keys) ≡ length columns
held-width columns row h = fits-length columns (decoded_keys columns row.keys) h.fit.fits

-- the key of a value of such a row
pub held-key : (columns : List Column) (row : KeyRow) (j : ℕ) (v : Value) → IsHeld columns row → slice_get (decoded_keys columns row.keys) j ≡ Some v → key_at j row ≡ key_of v
held-key columns row j v h e =
    let vs = decoded_keys columns row.keys in
    ap (key_at j) (sym h.keys) ∙ get_or-map key_of vs j v [] (slice_get_within vs j v e) ∙ ap key_of (get_or_from_slice_get vs j v v e)

-- a row that fits is held by its keys
pub IsHeld-keyed : (columns : List Column) (row : Row) → IsRow columns row → IsHeld columns (keyed row)
IsHeld-keyed columns row h =
    let same = decoded_row-keyed columns row h in
    record { fit = subst (IsRow columns) (sym same) h; keys = ap keyed same }

pub All-keyed : (columns : List Column) (rows : List Row) → All (IsRow columns) rows → All (IsHeld columns) (map keyed rows)
All-keyed columns rows h = All-map (IsHeld columns) keyed rows (All-weaker (IsRow columns) (λ r. IsHeld columns (keyed r)) (IsHeld-keyed columns) rows h)

-- ---- a row as its stage holds it

pub stands-length : (columns : List Column) (standing : Standing) → Stands columns standing → length (values_held columns standing) ≡ length columns
stands-length columns (standings.Row row) h = fits-length columns row.now.values h.fits
stands-length columns (standings.Delta l2 i) h = held-width columns (get_or l2.now.rows i no_row) h.held
stands-length columns (standings.Part part i) h = held-width columns (get_or part.now.rows i no_row) h.held
