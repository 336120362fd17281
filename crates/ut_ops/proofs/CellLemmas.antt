-- What a row that fits has in a column.
use Rattle.std.proofs.Common.{ℕ, zero, suc, ◌<◌, ◌≡◌, ◌≢◌, List, [], ◌∷◌, length, Option, None, Some, refl, sym, ap, ◌∙◌, arith, slice_get, unwrap_or, IsTrue, ℤ, pos, IfSome, IfNone, true≢false}
use Rattle.std.specs.Option.{option_map}
use Rattle.std.specs.List.{list_all}
use Rattle.ut_key.specs.Keys.{key_cmp}
use Rattle.ut_value.specs.declared.value.Value.{Value}
use Rattle.ut_value.specs.declared.value.Value.TheVariants.{Int, Text}
use Rattle.ut_value.specs.declared.value.Kind.{Kind}
use Rattle.ut_value.specs.declared.value.Kind.TheVariants as kinds
use Rattle.ut_value.specs.declared.value.Column.{Column}
use Rattle.ut_value.specs.KeyBytes.{is_value, is_of_kind, is_int, int_key, key_of}
use Rattle.ut_value.specs.KeyOrder.{value_cmp}
use Rattle.ut_value.proofs.KeyLemmas.{keys_in_order, one_number}
use Rattle.ut_plain.specs.Tables.{fits_columns}
use Rattle.ut_plain.proofs.BoolLemmas.{and_left, and_right}
use Rattle.ut_scan.specs.declared.place.Found.{Found}
use Rattle.ut_exact.specs.Places.{StagedRow}
use Rattle.ut_staged.specs.Staged.{Staged, row_at}
use Rattle.ut_ops.specs.Fit.{is_row, values_in, cell}

kind_at : List Column → ℕ → Option Kind
kind_at columns c = option_map (λ (x : Column). x.kind) (slice_get columns c)

-- what stands in a column of a row that fits
pub record InColumn (columns : List Column) (values : List Value) (c : ℕ) : Type 0 where
  pub value : Value
  pub kind : Kind
  pub is : slice_get values c ≡ Some value
  pub kind_is : option_map (λ (x : Column). x.kind) (slice_get columns c) ≡ Some kind
  pub of_kind : IsTrue (is_of_kind kind value)
  pub kept : IsTrue (is_value value)

pub in_column : (columns : List Column) (values : List Value) (c : ℕ) → IsTrue (fits_columns columns values) → IsTrue (list_all is_value values) → c < length columns → InColumn columns values c
in_column [] values c f k h = absurd (omega arith)
in_column (x ∷ xs) [] c f k h = absurd (true≢false (sym f))
in_column (x ∷ xs) (v ∷ vs) zero f k h = record { value = v; kind = x.kind; is = refl; kind_is = refl; of_kind = and_left (is_of_kind x.kind v) (fits_columns xs vs) f; kept = and_left (is_value v) (list_all is_value vs) k }
in_column (x ∷ xs) (v ∷ vs) (suc c) f k h =
    let r = in_column xs vs c (and_right (is_of_kind x.kind v) (fits_columns xs vs) f) (and_right (is_value v) (list_all is_value vs) k) (omega arith) in
    record { value = r.value; kind = r.kind; is = r.is; kind_is = r.kind_is; of_kind = r.of_kind; kept = r.kept }

-- a row that was found, and its value in a column
pub record IsCell (s : Staged) (c : ℕ) (f : Found) : Type 0 where
  pub row : StagedRow
  pub kind : Kind
  pub there : row_at s f.place ≡ Some row
  pub is : slice_get row.values c ≡ Some (cell s c f)
  pub kind_is : option_map (λ (x : Column). x.kind) (slice_get s.columns c) ≡ Some kind
  pub of_kind : IsTrue (is_of_kind kind (cell s c f))
  pub kept : IsTrue (is_value (cell s c f))

pub is_cell : (s : Staged) (c : ℕ) (f : Found) → IsTrue (is_row s.columns (row_at s f.place)) → c < length s.columns → IsCell s c f
is_cell s c f fit small = by (row_at s f.place) refl fit
  where
    by : (o : Option StagedRow) → row_at s f.place ≡ o → IsTrue (is_row s.columns o) → IsCell s c f
    by None e h = absurd (true≢false (sym h))
    by (Some row) e h =
        let r = in_column s.columns row.values c (and_left (fits_columns s.columns row.values) (list_all is_value row.values) h) (and_right (fits_columns s.columns row.values) (list_all is_value row.values) h) small in
        let same : cell s c f ≡ r.value = ap (λ o. unwrap_or (slice_get (values_in o) c) (Int (pos 0))) e ∙ ap (λ o. unwrap_or o (Int (pos 0))) r.is in
        record {
          row = row;
          kind = r.kind;
          there = e;
          is = r.is ∙ ap Some (sym same);
          kind_is = r.kind_is;
          of_kind = ap (is_of_kind r.kind) same ∙ r.of_kind;
          kept = ap is_value same ∙ r.kept;
        }

-- a column of numbers is a column
pub within_kind : (columns : List Column) (c : ℕ) (k : Kind) → option_map (λ (x : Column). x.kind) (slice_get columns c) ≡ Some k → c < length columns
within_kind [] c k h = cc
within_kind (x ∷ xs) zero k h = omega arith
within_kind (x ∷ xs) (suc c) k h = omega (arith, within_kind xs c k h)

pub one_kind : (a b : Kind) → Some a ≡ Some b → a ≡ b
one_kind a b h = ap (λ o. unwrap_or o a) h

-- a number is read from its key
pub number-is : (s : Staged) (c : ℕ) (f : Found) (key : List ℕ) (o : Option ℤ) → IsTrue (is_row s.columns (row_at s f.place)) → option_map (λ (x : Column). x.kind) (slice_get s.columns c) ≡ Some kinds.Int
    → ((row : StagedRow) (value : Value) → row_at s f.place ≡ Some row → slice_get row.values c ≡ Some value → key ≡ key_of value)
    → IfSome o (λ x. IsTrue (is_int x) × (key ≡ int_key x)) → IfNone o (length key ≢ 8) → cell s c f ≡ Int (unwrap_or o (pos 0))
number-is s c f key o fit kind reads some none =
    let x = is_cell s c f fit (within_kind s.columns c kinds.Int kind) in
    by (cell s c f) (ap (λ k. is_of_kind k (cell s c f)) (one_kind kinds.Int x.kind (sym kind ∙ x.kind_is)) ∙ x.of_kind) x.kept (reads x.row (cell s c f) x.there x.is) o some none
  where
    by : (v : Value) → IsTrue (is_of_kind kinds.Int v) → IsTrue (is_value v) → key ≡ key_of v → (o : Option ℤ) → IfSome o (λ x. IsTrue (is_int x) × (key ≡ int_key x)) → IfNone o (length key ≢ 8) → v ≡ Int (unwrap_or o (pos 0))
    by (Text t) of kept is o some none = absurd (true≢false (sym of))
    by (Int x) of kept is None some none = absurd (none (ap length is))
    by (Int x) of kept is (Some y) some none = ap Int (one_number x y kept some.0 (sym is ∙ some.1))

-- keys stand in the order of the values
pub order-is : (s : Staged) (c : ℕ) (f g : Found) (a b : List ℕ) → IsTrue (is_row s.columns (row_at s f.place)) → IsTrue (is_row s.columns (row_at s g.place)) → c < length s.columns
    → ((row : StagedRow) (value : Value) → row_at s f.place ≡ Some row → slice_get row.values c ≡ Some value → a ≡ key_of value)
    → ((row : StagedRow) (value : Value) → row_at s g.place ≡ Some row → slice_get row.values c ≡ Some value → b ≡ key_of value)
    → key_cmp a b ≡ value_cmp (cell s c f) (cell s c g)
order-is s c f g a b fit other small first second =
    let x = is_cell s c f fit small in
    let y = is_cell s c g other small in
    let same = one_kind y.kind x.kind (sym y.kind_is ∙ x.kind_is) in
    keys_in_order x.kind a b (cell s c f) (cell s c g) (x.of_kind, x.kept, first x.row (cell s c f) x.there x.is)
    (ap (λ k. is_of_kind k (cell s c g)) (sym same) ∙ y.of_kind, y.kept, second y.row (cell s c g) y.there y.is)
