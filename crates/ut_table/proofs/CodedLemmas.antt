-- The codes of a column stand for the values of its rows.
use Rattle.std.proofs.Common.{◌≡◌, ℕ, zero, suc, ◌+◌, ◌<◌, ◌≤◌, List, [], ◌∷◌, ◌++◌, length, map, replicate, get_or, Option, None, Some, unwrap_or, All, refl, sym, ◌∙◌, ap, subst, arith}
use Rattle.std.specs.Prelude.{slice_get, IsSome}
use Rattle.std.specs.Option.{option_map}
use Rattle.std.proofs.lemmas.List.{length-map, length-append, get_or-append-add, get_or_append_left}
use Rattle.std.proofs.lemmas.Option.{slice_get-map, slice_get-get_or, slice_get_within, get_or_from_slice_get}
use Rattle.ut_exact.specs.Places.{StagedRow}
use Rattle.ut_stamps.specs.declared.place.Place.{Place}
use Rattle.ut_stamps.specs.declared.place.Place.TheVariants.{L2, Closed, Main}
use Rattle.ut_unsorted.specs.FirstSeen.{first_seen}
use Rattle.ut_l2.specs.KeyRows.{KeyRow, cells_at, key_at, no_row}
use Rattle.ut_l2.specs.Delta.{Delta}
use Rattle.ut_main.specs.Parts.{PartValue, MainValue, dicts_of, dicts_behind, first_parts}
use Rattle.ut_scan.specs.Coded.{code_at, keys_in}
use Rattle.ut_own.specs.Own.{own_dict}
use Rattle.ut_prefix.specs.Chain.{end_to_end}
use Rattle.ut_prefix.proofs.ChainLemmas.{end_to_end-push}
use Rattle.ut_main.specs.Columns.{Chain}
use Rattle.ut_main.proofs.MainLemmas.{dicts-next, first-all}
use Rattle.ut_scan.proofs.CodeLemmas.{code-main, keys_first, IsPartOf}
use Rattle.ut_staged.specs.Staged.{Staged, row_at}
use Rattle.ut_table.specs.Decoded.{decoded}
use Rattle.ut_table.specs.Contents.{Contents, PendingValue, closed_rows, held, staged}
use Rattle.ut_table.specs.Kept.{IsHeld, IsTable}
use Rattle.ut_table.specs.Pending.{key_row}
use Rattle.ut_table.specs.Coded.{no_column, keyed_main, delta_keys, coded_keys, coded_values}
use Rattle.ut_table.proofs.StampedLemmas.{held-keys}
use Rattle.ut_table.proofs.DecodedLemmas.{held-value}
use Rattle.ut_table.proofs.PlaceLemmas.{key_row_at, closed-lengths, part-there}
use Rattle.ut_table.proofs.CloseLemmas.{parts-keys}
use Rattle.ut_table.proofs.ReadLemmas.{columns-are, holds-row, held-values, within}

-- ---- the keys of all dictionaries

-- no parts, no keys
no-keys : (width j : ℕ) → get_or (replicate {A = Chain} width []) j [] ≡ []
no-keys zero j = refl
no-keys (suc width) zero = refl
no-keys (suc width) (suc j) = no-keys width j

pub keys-empty : (main : MainValue) (j : ℕ) → length main.parts ≡ 0 → [] ≡ keys_in main j
keys-empty main j e = by main.parts e
  where
    by : (parts : List (List KeyRow)) → length parts ≡ 0 → [] ≡ end_to_end (get_or (dicts_of (replicate {A = Chain} main.width []) parts) j [])
    by [] e = sym (ap (λ (c : Chain). end_to_end c) (no-keys main.width j))
    by (part ∷ parts) e = absurd (omega (arith, e))

-- the keys of no parts, and of one part more
pub keys-none : (main : MainValue) (j : ℕ) → [] ≡ keys_first main j 0
keys-none main j = sym (ap (λ (c : Chain). end_to_end c) (no-keys main.width j))

pub keys-next : (main : MainValue) (p j : ℕ) (part : PartValue) (old own new : List (List ℕ)) → p < length main.parts → j < main.width → part.rows ≡ get_or main.parts p [] → part.before ≡ dicts_behind (first_parts p main)
    → old ≡ keys_first main j p → own ≡ own_dict (end_to_end (get_or part.before j [])) (cells_at j part.rows) → new ≡ old ++ own → new ≡ keys_first main j (p + 1)
keys-next main p j part old own new there wide rows before_is so_far own_is is =
    let chain = get_or (dicts_behind (first_parts p main)) j [] in
    let next = own_dict (end_to_end chain) (cells_at j (get_or main.parts p [])) in
    let own_here : own ≡ next = own_is ∙ (λ i. own_dict (end_to_end (get_or (before_is i) j [])) (cells_at j (rows i))) in
    is ∙ (λ i. so_far i ++ own_here i) ∙ sym (ap (λ (c : Chain). end_to_end c) (dicts-next main p j there wide) ∙ end_to_end-push chain next)

pub keys-all : (main : MainValue) (p j : ℕ) → length main.parts ≤ p → keys_first main j p ≡ keys_in main j
keys-all main p j le = ap (λ (m : MainValue). keys_in m j) (first-all main p le)

-- ---- lists end to end

-- what stands behind a list
behind : {X : Type 0} (xs ys : List X) (n : ℕ) (x : X) → slice_get ys n ≡ Some x → slice_get (xs ++ ys) (length xs + n) ≡ Some x
behind xs ys n x e =
    let lt = slice_get_within ys n x e in
    slice_get-get_or (xs ++ ys) (length xs + n) x (omega (arith, lt, length-append xs ys))
    ∙ ap Some (get_or-append-add xs ys n x ∙ get_or_from_slice_get ys n x x e)

-- what stands before one
pub before : {X : Type 0} (xs ys : List X) (n : ℕ) (x : X) → slice_get xs n ≡ Some x → slice_get (xs ++ ys) n ≡ Some x
before xs ys n x e =
    let lt = slice_get_within xs n x e in
    slice_get-get_or (xs ++ ys) n x (omega (arith, lt, length-append xs ys))
    ∙ ap Some (get_or_append_left xs ys x n lt ∙ get_or_from_slice_get xs n x x e)

module _ {t : Contents} (h : IsTable t) {s : Staged} (view : staged t ≡ s) where
  pub main-is : keyed_main s ≡ t.main
  main-is = ap keyed_main (sym view) ∙ (λ i. record { width = sym h.rows.main_wide i; parts = parts-keys h i })

  pub l2-is : map key_row s.l2 ≡ t.l2.rows
  l2-is = ap (λ (x : Staged). map key_row x.l2) (sym view) ∙ held-keys t.columns t.l2.rows t.stamps.l2.items h.rows.l2 h.stamped.l2

  pub closed-is : map key_row (unwrap_or s.closed []) ≡ closed_rows t.pending
  closed-is = ap (λ (x : Staged). map key_row (unwrap_or x.closed [])) (sym view) ∙ by t.pending h.rows.closed (closed-lengths h)
    where
      by : (q : Option PendingValue) → All (IsHeld t.columns) (closed_rows q) → length (unwrap_or t.stamps.closed []) ≡ length (closed_rows q)
          → map key_row (unwrap_or (option_map (λ (p : PendingValue). held t.columns p.closed.rows (unwrap_or t.stamps.closed [])) q) []) ≡ closed_rows q
      by None are same = refl
      by (Some p) are same = held-keys t.columns p.closed.rows (unwrap_or t.stamps.closed []) are same

  -- the code of a row's key stands for its value
  value-of : (p q : Place) (j code : ℕ) (row : StagedRow) → p ≡ q → j < length s.columns → row_at s p ≡ Some row → slice_get (coded_keys s j) code ≡ Some (key_at j (key_row_at t q))
      → slice_get (coded_values s j) code ≡ slice_get row.values j
  value-of p q j code row same lt e k =
      let kind = (get_or s.columns j no_column).kind in
      let holds = holds-row h view p q (length t.columns) same refl (subst IsSome (sym e) refl) in
      slice_get-map (decoded kind) (coded_keys s j) code ∙ ap (option_map (decoded kind)) k
      ∙ sym (held-value s.columns (key_row_at t q) j no_column holds.held lt).0 ∙ ap (λ vs. slice_get vs j) (held-values h view p q row same e)

  pub main-value : (p : Place) (n i j : ℕ) (part : PartValue) (row : StagedRow) → p ≡ Main n i → part.rows ≡ get_or t.main.parts n [] → part.before ≡ dicts_behind (first_parts n t.main) → j < length s.columns → row_at s p ≡ Some row
      → slice_get (coded_values s j) (code_at part i j) ≡ slice_get row.values j
  main-value p n i j part row same rows before_is lt e =
      let some = subst IsSome (sym e) refl in
      let there = within h view p (Main n i) same some in
      let at : IsPartOf t.main n part = record { there = part-there t.main.parts n i there; rows = rows; before = before_is } in
      let wide : j < t.main.width = omega (arith, lt, h.rows.main_wide, ap length (columns-are h view)) in
      let place : i < length part.rows = omega (arith, there, ap length rows) in
      let code = code-main t.main n part j i at wide place in
      let main = ap (λ m. keys_in m j) main-is in
      let key : slice_get (keys_in t.main j) (code_at part i j) ≡ Some (key_at j (get_or part.rows i no_row)) = slice_get-get_or (keys_in t.main j) (code_at part i j) [] code.0 ∙ ap Some code.1 in value-of p (Main n i) j (code_at part i j) row same lt e
      (before (keys_in (keyed_main s) j) (delta_keys j s.l2 ++ delta_keys j (unwrap_or s.closed [])) (code_at part i j) (key_at j (key_row_at t (Main n i)))
      (ap (λ ks. slice_get ks (code_at part i j)) main ∙ key ∙ ap (λ (rs : List KeyRow). Some (key_at j (get_or rs i no_row))) rows))

  pub l2-value : (p : Place) (i j m c : ℕ) (d : Delta) (row : StagedRow) → p ≡ L2 i → d ≡ t.l2 → m ≡ length (keys_in t.main j) → j < length s.columns → row_at s p ≡ Some row
      → slice_get (first_seen (cells_at j d.rows)) c ≡ Some (key_at j (get_or d.rows i no_row)) → slice_get (coded_values s j) (m + c) ≡ slice_get row.values j
  l2-value p i j m c d row same d_is m_is lt e k =
      let main = keys_in (keyed_main s) j in
      let rows : d.rows ≡ map key_row s.l2 = ap (λ (x : Delta). x.rows) d_is ∙ sym l2-is in
      let at : m ≡ length main = m_is ∙ ap (λ x. length (keys_in x j)) (sym main-is) in
      let key : slice_get (delta_keys j s.l2) c ≡ Some (key_at j (key_row_at t (L2 i))) =
      ap (λ (rs : List KeyRow). slice_get (first_seen (cells_at j rs)) c) (sym rows) ∙ k ∙ ap (λ (x : Delta). Some (key_at j (get_or x.rows i no_row))) d_is in
      value-of p (L2 i) j (m + c) row same lt e
      (ap (λ n. slice_get (coded_keys s j) (n + c)) at
      ∙ behind main (delta_keys j s.l2 ++ delta_keys j (unwrap_or s.closed [])) c (key_at j (key_row_at t (L2 i)))
      (before (delta_keys j s.l2) (delta_keys j (unwrap_or s.closed [])) c (key_at j (key_row_at t (L2 i))) key))

  pub closed-value : (p : Place) (i j m c : ℕ) (q : PendingValue) (d : Delta) (row : StagedRow) → p ≡ Closed i → t.pending ≡ Some q → d ≡ q.closed → m ≡ length (keys_in (keyed_main s) j) + length (delta_keys j s.l2) → j < length s.columns → row_at s p ≡ Some row
      → slice_get (first_seen (cells_at j d.rows)) c ≡ Some (key_at j (get_or d.rows i no_row)) → slice_get (coded_values s j) (m + c) ≡ slice_get row.values j
  closed-value p i j m c q d row same is d_is m_is lt e k =
      let main = keys_in (keyed_main s) j in
      let closed = delta_keys j (unwrap_or s.closed []) in
      let rows : d.rows ≡ closed_rows t.pending = ap (λ (x : Delta). x.rows) d_is ∙ sym (ap closed_rows is) in
      let key : slice_get closed c ≡ Some (key_at j (key_row_at t (Closed i))) =
      ap (λ (rs : List KeyRow). slice_get (first_seen (cells_at j rs)) c) (closed-is ∙ sym rows) ∙ k ∙ ap (λ (rs : List KeyRow). Some (key_at j (get_or rs i no_row))) rows in
      let at : m + c ≡ length main + (length (delta_keys j s.l2) + c) = omega (arith, m_is) in
      value-of p (Closed i) j (m + c) row same lt e
      (ap (slice_get (coded_keys s j)) at
      ∙ behind main (delta_keys j s.l2 ++ closed) (length (delta_keys j s.l2) + c) (key_at j (key_row_at t (Closed i)))
      (behind (delta_keys j s.l2) closed c (key_at j (key_row_at t (Closed i))) key))

  -- ---- how many codes there are

  pub open-codes : (j m n : ℕ) (d : Delta) → d ≡ t.l2 → m ≡ length (keys_in t.main j) → n ≡ length (first_seen (cells_at j d.rows)) → m + n ≡ length (keys_in (keyed_main s) j) + length (delta_keys j s.l2)
  open-codes j m n d d_is m_is n_is =
      omega (arith, m_is, n_is, ap (λ x. length (keys_in x j)) main-is, ap (λ (rs : List KeyRow). length (first_seen (cells_at j rs))) (ap (λ (x : Delta). x.rows) d_is ∙ sym l2-is))

  pub all-codes : (j m n : ℕ) (rows : List KeyRow) → rows ≡ closed_rows t.pending → m ≡ length (keys_in (keyed_main s) j) + length (delta_keys j s.l2) → n ≡ length (first_seen (cells_at j rows)) → m + n ≡ length (coded_values s j)
  all-codes j m n rows rows_is m_is n_is =
      let main = keys_in (keyed_main s) j in
      let closed = delta_keys j (unwrap_or s.closed []) in
      omega (arith, m_is, n_is, ap (λ (rs : List KeyRow). length (first_seen (cells_at j rs))) (rows_is ∙ sym closed-is), length-map (coded_keys s j) (decoded (get_or s.columns j no_column).kind), length-append main (delta_keys j s.l2 ++ closed), length-append (delta_keys j s.l2) closed)
